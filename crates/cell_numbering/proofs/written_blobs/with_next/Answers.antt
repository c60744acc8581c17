use Rattle.std.proofs.Common.{◌≡◌, ◌++◌, ◌∷◌, [], ℕ, List, length, slice_index, sym, ap, subst, ◌∙◌, arith}
use Rattle.cell_numbering.specs.declared.blob_bytes.BlobBytes.{BlobBytes}
use Rattle.cell_numbering.specs.BlobBytes.{AreWrittenAs, all_bytes, bytes_in}
use Rattle.cell_numbering.proofs.WrittenLemmas.{IsFirstFor, bytes_push, next_first, written_push}
use Rattle.cell_numbering.proofs.written_blobs.with_next.Goals as goal

pub returns : goal.returns
returns c =
    let bytes = c.args.written.bytes.items in
    let firsts = c.args.written.firsts.items in
    let next = c.args.next in
    let known = ap length c.deref.ensures.value in
    let last : c.len.result ≡ length bytes = omega (arith, c.len.ensures, c.args.written.bytes.ok.0) in
    let first = c.first_of-first.result in
    let is : IsFirstFor bytes firsts c.requires.written next first = next_first bytes firsts c.requires.written next c.args.earlier c.len.result first last
    (λ past. c.first_of-first.ensures.own (omega (arith, past, known)))
    (λ low. c.first_of-first.ensures.earlier (omega (arith, low, known)) ∙ ap (λ (l : List ℕ). slice_index l c.args.earlier) c.deref.ensures.value)
    (λ low. c.requires.earlier (omega (arith, low, c.args.written.firsts.ok.0))) in
    let blobs = all_bytes bytes firsts ++ bytes_in next ∷ [] in
    subst (λ (l : List ℕ). AreWrittenAs c.push-2.new.self.items l blobs) (sym c.in_ok-push.ensures.items)
    (subst (λ (b : List BlobBytes). AreWrittenAs b (firsts ++ first ∷ []) blobs) (sym c.in_ok-push-2.ensures.items)
    (record { written = written_push bytes firsts c.requires.written next first is; same = bytes_push bytes firsts c.requires.written next first is }))
