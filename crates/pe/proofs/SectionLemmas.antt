-- Section headers, one after another.
use Rattle.pe.proofs.Prelude.{◌≡◌, ℕ, zero, suc, ◌+◌, ◌-◌, ◌*◌, ◌<◌, ◌≤◌, List, [], ◌∷◌, length, refl, sym, ap, ◌∙◌, subst, arith, Bool, true, false, cond, Some, Option, flat_map, find, AllSay, widths, little_endian, part, SectionHeader, section_header, section_at, sections_from, has_bytes}
use Rattle.std.proofs.lemmas.Bool.{and_parts, leb-true, cond-true, cond-false}

-- equal offsets have equal numbers
pub moved : (whole : List ℕ) (offset other count : ℕ) → offset ≡ other → little_endian (part whole offset count) ≡ little_endian (part whole other count)
moved whole offset other count e = ap (λ (p : ℕ). little_endian (part whole p count)) e

pub length-sections_from : (file : List ℕ) (offset count : ℕ) → length (sections_from file offset count) ≡ count
length-sections_from file offset zero = refl
length-sections_from file offset (suc count) = ap suc (length-sections_from file (offset + 40) count)

pub widths-sections : (sections : List SectionHeader) → widths (flat_map section_header sections) ≡ 40 * length sections
widths-sections [] = refl
widths-sections (section ∷ sections) = let more = widths-sections sections in omega arith

same_section : (a b : SectionHeader) → a.virtual_address ≡ b.virtual_address → a.size_of_raw_data ≡ b.size_of_raw_data → a.pointer_to_raw_data ≡ b.pointer_to_raw_data → a ≡ b
same_section a b address size pointer =
    let make : ℕ → ℕ → ℕ → SectionHeader = λ x y z. record { virtual_address = x; size_of_raw_data = y; pointer_to_raw_data = z } in
    ap (λ (x : ℕ). make x a.size_of_raw_data a.pointer_to_raw_data) address
    ∙ ap (λ (y : ℕ). make b.virtual_address y a.pointer_to_raw_data) size
    ∙ ap (make b.virtual_address b.size_of_raw_data) pointer

-- section headers at an offset are those that are read there
pub sections_say : (file : List ℕ) (offset : ℕ) (sections : List SectionHeader) → AllSay file offset (flat_map section_header sections) → sections ≡ sections_from file offset (length sections)
sections_say file offset [] says = refl
sections_say file offset (section ∷ sections) says =
    let Said : ℕ → Type 0 = λ p. AllSay file p (flat_map section_header sections) in
    let here : section ≡ section_at file offset = same_section section (section_at file offset) says.1.0 (says.1.1.0 ∙ moved file (offset + 12 + 4) (offset + 16) 4 (omega arith))
    (says.1.1.1.0 ∙ moved file (offset + 12 + 4 + 4) (offset + 20) 4 (omega arith)) in
    let tail : Said (offset + 40) = subst Said (omega arith) says.1.1.1.1.1 in
    let more = sections_say file (offset + 40) sections tail in
    ap (λ (s : SectionHeader). s ∷ sections) here ∙ ap (λ (ss : List SectionHeader). section_at file offset ∷ ss) more

pub sections_said : (file : List ℕ) (offset count : ℕ) → AllSay file offset (flat_map section_header (sections_from file offset count))
sections_said file offset zero = tt
sections_said file offset (suc count) =
    let Said : ℕ → Type 0 = λ p. AllSay file p (flat_map section_header (sections_from file (offset + 40) count)) in
    let tail : Said (offset + 12 + 4 + 4 + 4 + 16) = subst Said (omega arith) (sections_said file (offset + 40) count) in
    (tt, (refl, (moved file (offset + 16) (offset + 12 + 4) 4 (omega arith), (moved file (offset + 20) (offset + 12 + 4 + 4) 4 (omega arith), (tt, tail)))))

-- one step of a search over section headers
sections_more : (file : List ℕ) (offset number count : ℕ) → number < count
    → sections_from file (offset + 40 * number) (count - number) ≡ section_at file (offset + 40 * number) ∷ sections_from file (offset + 40 * (number + 1)) (count - (number + 1))
sections_more file offset number count lt =
    let left : count - number ≡ suc (count - (number + 1)) = omega arith in
    let next : offset + 40 * number + 40 ≡ offset + 40 * (number + 1) = omega arith in
    ap (sections_from file (offset + 40 * number)) left ∙ ap (λ (p : ℕ). section_at file (offset + 40 * number) ∷ sections_from file p (count - (number + 1))) next

pub search_here : (file : List ℕ) (offset number count rva n : ℕ) (section : SectionHeader) (sought : Option SectionHeader) → number < count → section ≡ section_at file (offset + 40 * number)
    → sought ≡ find (has_bytes rva n) (sections_from file (offset + 40 * number) (count - number)) → has_bytes rva n section ≡ true → Some section ≡ sought
search_here file offset number count rva n section sought lt is tail passes =
    let here = ap (find (has_bytes rva n)) (sections_more file offset number count lt) in
    let at : has_bytes rva n (section_at file (offset + 40 * number)) ≡ true = ap (has_bytes rva n) (sym is) ∙ passes in
    ap (λ (s : SectionHeader). Some s) is ∙ sym (tail ∙ here ∙ cond-true _ (Some (section_at file (offset + 40 * number))) _ at)

pub search_more : (file : List ℕ) (offset number count rva n : ℕ) (section : SectionHeader) (sought : Option SectionHeader) → number < count → section ≡ section_at file (offset + 40 * number)
    → sought ≡ find (has_bytes rva n) (sections_from file (offset + 40 * number) (count - number)) → has_bytes rva n section ≡ false
    → sought ≡ find (has_bytes rva n) (sections_from file (offset + 40 * (number + 1)) (count - (number + 1)))
search_more file offset number count rva n section sought lt is tail fails =
    let here = ap (find (has_bytes rva n)) (sections_more file offset number count lt) in
    let at : has_bytes rva n (section_at file (offset + 40 * number)) ≡ false = ap (has_bytes rva n) (sym is) ∙ fails in
    tail ∙ here ∙ cond-false _ (Some (section_at file (offset + 40 * number))) _ at

-- the section that a search returns has the bytes
found_passes : (rva n : ℕ) (sections : List SectionHeader) (section : SectionHeader) → find (has_bytes rva n) sections ≡ Some section → has_bytes rva n section ≡ true
found_passes rva n [] section e = cc
found_passes rva n (first ∷ sections) section e = go (has_bytes rva n first) refl (found_passes rva n sections section) e where
  go : (b : Bool) → has_bytes rva n first ≡ b → (find (has_bytes rva n) sections ≡ Some section → has_bytes rva n section ≡ true)
      → cond b (Some first) (find (has_bytes rva n) sections) ≡ Some section → has_bytes rva n section ≡ true
  go true is tail e = let same : first ≡ section = cc in ap (has_bytes rva n) (sym same) ∙ is
  go false is tail e = tail e

-- a section that has the bytes begins at or before their address
pub found_before : (rva n : ℕ) (sections : List SectionHeader) (section : SectionHeader) → find (has_bytes rva n) sections ≡ Some section → section.virtual_address ≤ rva
found_before rva n sections section e =
    let passes = and_parts _ _ (found_passes rva n sections section e) in
    leb-true section.virtual_address rva passes.0
