use Rattle.heap_pools.proofs.Prelude.{◌≡◌, ◌-◌, ◌≤◌, length, drop, refl, sym, ap, ◌∙◌, arith, start_use_at, bytes_of}
use Rattle.heap_pools.specs.HeapTexts.{heap_text}
use Rattle.heap_pools.proofs.HeapTextLemmas.{heap_text_drop, heap_text_none}
use Rattle.heap_pools.proofs.StartUseLemmas.{texts_more, texts_all}
use Rattle.heap_pools.proofs.UseLemmas.{length-bytes}
use Rattle.heap_pools.proofs.heap_texts.read_texts.Goals as goal

pub loop-start_use-init : goal.loop-start_use-init
loop-start_use-init c = record {
  len = c.in_ok-texts.ensures.len;
  group = sym (heap_text_none c.args.heap.now 0 refl);
  written = λ k h. absurd (omega (arith, h));
}

pub loop-start_use-preserved : goal.loop-start_use-preserved
loop-start_use-preserved c =
    let heap = c.args.heap.now in
    let start_uses = c.args.start_uses.now in
    let n = c.loop-start_use.start_use-index in
    let kept = c.loop-start_use.invariant in
    let texts = c.loop-start_use.texts.items in
    let group = c.group_at-group.result in
    let found = c.group_at-group.ensures in
    let start = (start_use_at start_uses n).start in
    let long : length texts ≡ length c.args.starts.now = omega (arith, kept.len, c.loop-start_use.texts.ok.0) in
    let within : start - group.start ≤ length (heap_text heap group.start) = omega (arith, found.to, ap length found.group) in
    let is : c.split_at.result.1.now ≡ heap_text heap start = c.split_at.ensures.back ∙ ap (drop (start - group.start)) found.group ∙ heap_text_drop heap group.start start found.from within in
    record {
      len = kept.len;
      group = found.group;
      written = texts_more heap c.args.starts.now start_uses c.requires n c.loop-start_use-test.true texts c.split_at.result.1 long is kept.written;
    }

pub returns : goal.returns
returns c =
    let kept = c.loop-start_use.invariant in
    let texts = c.loop-start_use.texts.items in
    let end : length c.args.start_uses.now ≤ c.loop-start_use.start_use-index = c.loop-start_use-test.false in
    let long : length (bytes_of texts) ≡ length c.args.starts.now = omega (arith, length-bytes texts, kept.len, c.loop-start_use.texts.ok.0) in
    texts_all c.args.heap.now c.args.starts.now c.args.start_uses.now c.requires (bytes_of texts) long (λ k h. kept.written k (omega (arith, h, end)))
