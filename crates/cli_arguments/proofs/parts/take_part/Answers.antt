use Rattle.std.proofs.Common.{◌∷◌, ◌≡◌, ◌∙◌, [], ap, arith, length, map, refl, sym, take}
use Rattle.std.proofs.lemmas.List.{length-map}
use Rattle.std.proofs.Math.Seq.{take-append_seam}
use Rattle.cli_arguments.proofs.Prelude.{Bor, length_push, map_push, same_from_push}
use Rattle.clap.specs.Words.{Text}
use Rattle.cli_arguments.proofs.parts.take_part.Goals as goal

pub returns-in_default : goal.returns-in_default
returns-in_default c = (
  refl,
  (λ before last ends.
      absurd (omega (
        arith,
        c.in_default.ensures.cases,
        ap length c.as_slice.ensures.value,
        ap length ends,
        length_push before last,
        length-map c.args.words.now.items (λ (word : Bor Text). word.now),
      ))),
)

pub returns : goal.returns
returns c =
    let before = c.in-Some.before.now in
    let last = c.in-Some.last.now in
    let whole = sym c.as_slice.ensures.value ∙ c.in-Some.ensures.cases.0 in
    let left : c.truncate.new.self.items ≡ before =
    c.truncate.ensures.items ∙ ap (take (length before)) whole ∙ take-append_seam before (last ∷ []) in
    rw (left, whole) (map_push (λ (word : Bor Text). word.now) before last, rw (← c.has_files.ensures, ← c.is_part.ensures) c.if-not-is_part.false)

pub returns-then-not-is_part : goal.returns-then-not-is_part
returns-then-not-is_part c = (
  refl,
  (λ before last ends.
      let whole = sym c.as_slice.ensures.value ∙ c.in-Some.ensures.cases.0 in
      let same = same_from_push before (map (λ word. word.now) c.in-Some.before.now) last c.in-Some.last.now.now
      (sym ends ∙ ap (map (λ word. word.now)) whole ∙ map_push (λ (word : Bor Text). word.now) c.in-Some.before.now c.in-Some.last.now) in
      rw (same.0, same.1, ← c.has_files.ensures, ← c.is_part.ensures) c.if-not-is_part.true),
)
