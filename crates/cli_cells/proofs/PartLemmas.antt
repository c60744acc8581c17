-- Parts of lines.
use Rattle.cli_cells.proofs.Prelude.{◌≡◌, ◌∙◌, ℕ, zero, suc, ◌+◌, List, [], ◌∷◌, ◌++◌, Option, Some, None, ◌⊎◌, inl, inr, ap, subst, sym, refl, arith, flat_map_more, Part, form_from, line_feed, line_from, part_letters, part_text, Adds, AwaitsOrFails, Printed, cell_part, Hidden, Shown, flat_map, range_with_len}
use Rattle.cli_lines.specs.declared.line.Before.{Before}
use Rattle.cli_lines.specs.declared.parts.Form.{Form}
use Rattle.cli_lines.specs.declared.parts.Form.TheVariants.{Text, Letters, JsonLines}
use Rattle.cli_lines.specs.Lines as line
use Rattle.cli_lines.specs.declared.names.Name.{Name}
use Rattle.cli_cells.specs.declared.row_lines.Names.{Names}

-- in a line of text a part is its text
same_in : (form : Form) (file : Option (List ℕ)) (at : Before) (first second : Part) (more : List Part) → (form ≡ Text) ⊎ (form ≡ Letters) → part_text first ≡ part_text second
    → form_from form file at (first ∷ more) ≡ form_from form file at (second ∷ more)
same_in Text file at first second more is same = ap (λ xs. (xs ++ flat_map part_text more) ++ line_feed) same
same_in Letters file at first second more is same = ap (λ xs. (part_letters (line.word xs) ++ flat_map part_letters more) ++ line_feed) same
same_in JsonLines file at first second more is same = elim is [ inl text ↦ cc | inr letters ↦ cc ]

same_awaits : (start contents waiting : Option (List ℕ)) (end : List Part → List ℕ) (whole : List ℕ) (first second : List Part) → end first ≡ end second
    → AwaitsOrFails start contents waiting end whole first → AwaitsOrFails start contents waiting end whole second
same_awaits start contents (Some waiting) end whole first second same awaits = (awaits.0, awaits.1, ap (λ xs. awaits.0 ++ xs) (sym same) ∙ awaits.2)
same_awaits start contents None end whole first second same awaits = awaits

-- a signature is its bytes in a line of text
pub signature_text_is : (names : Names) (key : Name) (encoding of : List ℕ) → part_text (cell_part names key (line.bytes encoding)) ≡ part_text (cell_part names key (line.signature encoding of))
signature_text_is Hidden key encoding of = refl
signature_text_is Shown key encoding of = refl

pub adds_text : {W : Type 0} (old new : Printed W) (first second : Part) → {form : Form} → form ≡ old.style.form → (form ≡ Text) ⊎ (form ≡ Letters) → part_text first ≡ part_text second
    → Adds old new (first ∷ []) → Adds old new (second ∷ [])
unfolding line_from
adds_text old new first second known is same adds = record {
  same = adds.same;
  awaits = λ start whole more awaits. adds.awaits start whole more
      (same_awaits start old.contents old.waiting (line_from old.style old.at) whole (second ∷ more) (first ∷ more)
      (sym (same_in old.style.form old.style.file old.at first second more (subst (λ (f : Form). (f ≡ Text) ⊎ (f ≡ Letters)) known is) same)) awaits);
}

-- the parts of one more cell
range_more : (a n j : ℕ) → a + n ≡ j → range_with_len a (n + 1) ≡ range_with_len a n ++ j ∷ []
range_more a zero j is = let same : a ≡ j = omega (arith, is) in ap (λ k. k ∷ []) same
range_more a (suc n) j is =
    let next : suc n + 1 ≡ suc (n + 1) = omega arith in
    ap (range_with_len a) next ∙ ap (λ xs. a ∷ xs) (range_more (a + 1) n j (omega (arith, is)))

pub parts_more : (parts : ℕ → List Part) (n : ℕ) → flat_map parts (range_with_len 0 n) ++ parts n ≡ flat_map parts (range_with_len 0 (n + 1))
parts_more parts n = flat_map_more parts [] (range_with_len 0 n) n ∙ ap (flat_map parts) (sym (range_more 0 n n (omega arith)))
