use Rattle.c_texts.proofs.Prelude.{◌≡◌, List, ℕ, ◌++◌, ◌∷◌, [], length, ◌∙◌, ap, codes, counted, with_text}
use Rattle.packed.specs.Codes.{name_of}
use Rattle.packed.specs.declared.fault.Fault.{Fault}
use Rattle.c_texts.specs.Explained.{explanation_text, space_before, three_digits}
use Rattle.c_texts.proofs.explained.write_explanation.Goals as goal

pub returns : goal.returns
returns c =
    let number = c.digits.ensures ∙ ap three_digits c.number.ensures in
    let name = c.name-name.ensures ∙ ap (λ (f : Fault). name_of f.code) c.new.ensures in
    let space = c.space_before.ensures ∙ ap space_before name in
    let section = c.item.ensures in
    let cause = c.item-2.ensures in
    let whole : _ ≡ explanation_text c.args.explained.now = λ i. number i ++ ((c.as_bytes.ensures.value ∙ space) i ++ ((c.as_bytes-2.ensures.value ∙ name) i ++ (codes ": " ++ (c.as_bytes-3.ensures.value i
    ++ ((10 ∷ 10 ∷ codes "- Rule: ") ++ (c.as_bytes-4.ensures.value i ++ ((c.as_bytes-5.ensures.value ∙ section.0) i ++ ((c.as_bytes-6.ensures.value ∙ section.1) i
    ++ ((10 ∷ codes "- Offset: ") ++ (c.as_bytes-7.ensures.value i ++ ((c.as_bytes-8.ensures.value ∙ cause.0) i ++ ((c.as_bytes-9.ensures.value ∙ cause.1) i
    ++ ((10 ∷ []) ++ []))))))))))))) in
    record {
      bytes = c.write_parts.ensures.bytes ∙ ap (with_text c.args.buffer.now) whole;
      length = c.write_parts.ensures.length ∙ ap (λ (l : List ℕ). counted (length l)) whole;
    }
