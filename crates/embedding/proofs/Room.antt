-- Where the parts of a result are: the headers, the root, and the end.
use Rattle.embedding.proofs.Prelude.{length-append, length-drop, length-replicate, length-take, drop, part, take, ◌≡◌, ℕ, ◌+◌, ◌-◌, ◌<◌, ◌≤◌, ◌⊎◌, ◌==◌, inl, inr, cond, List, ◌++◌, length, replicate, ap, ◌∙◌, arith, byte_limit, AllHold, lfanew, wider, optional_header_size, sections_offset, rules_of_image, CliHeader, Source, FileAlignment, aligned, field_of, full_size, raw_size, raw_end, section_offset, last, headers_end, Slot, Reused, Appended, Extended, StrongName, Keep, Clear, IsHeaderOf, AreHeadersApart, header_changes, target_of, root_bytes, FitsAt}
use Rattle.embedding.proofs.Parts.{AllWithin, AllApart}

pub above : (alignment number : ℕ) → 0 < alignment → number ≤ aligned alignment number
above alignment number some = omega arith

-- the headers up to the sections, which hold the directories
pub directories_end : (file : List ℕ) → AllHold (rules_of_image file) → lfanew file + 240 + wider file ≤ sections_offset file
directories_end file all =
    let narrow : 216 ≤ optional_header_size file = all.1.1.1.0.0 in
    elim all.1.1.1.1.1.0 as (λ _. lfanew file + 240 + wider file ≤ sections_offset file) [
      | inl is ↦ let wide : wider file ≡ 0 = ap (λ (m : ℕ). cond (m == 0x20B) 16 0) is in omega arith
      | inr is ↦
          let wide : wider file ≡ 16 = ap (λ (m : ℕ). cond (m == 0x20B) 16 0) is in
          let long : 232 ≤ optional_header_size file = all.1.1.1.1.0 is in
          omega arith
    ]

-- what of the file stays, where the root is, and where the result ends
pub record Room (file : List ℕ) (header : CliHeader) (root : List ℕ) (slot : Slot) : Type 0 where
  pub kept : (target_of file header (length root) slot).kept ≤ length file
  pub longer : (target_of file header (length root) slot).kept ≤ (target_of file header (length root) slot).len
  pub header_kept : header.place + 72 ≤ (target_of file header (length root) slot).kept
  pub root_after : headers_end file ≤ (target_of file header (length root) slot).start
  pub header_clear : (header.place + 72 ≤ (target_of file header (length root) slot).start) ⊎ ((target_of file header (length root) slot).start + length (root_bytes root header slot) ≤ header.place)
  pub root_within : (target_of file header (length root) slot).start + length (root_bytes root header slot) ≤ (target_of file header (length root) slot).len
  pub small : (target_of file header (length root) slot).len ≤ byte_limit
  pub wide : lfanew file + 240 + wider file ≤ sections_offset file
  pub headers : headers_end file ≤ header.place

pub room : (file : List ℕ) (header : CliHeader) (root : List ℕ) (source : Source) (slot : Slot) → IsHeaderOf file header → AreHeadersApart file header
    → FitsAt file (length root) header source slot → Room file header root slot
room file header root source Reused of apart fits =
    let padding = header.metadata.size - length root in
    let long : length (root ++ replicate padding 0) ≡ length root + padding = length-append root (replicate padding 0) ∙ omega (arith, length-replicate {A = ℕ} padding 0) in
    let short : length root ≤ header.metadata.size = fits.is_slot.short in
    record {
      kept = omega arith;
      longer = omega arith;
      header_kept = of.header_within;
      root_after = apart.root;
      header_clear = elim fits.is_slot.free.cli_header [
        | inl none ↦ absurd (omega arith)
        | inr clear ↦ elim clear [ inl h ↦ inl h | inr h ↦ inr (omega arith) ]
      ];
      root_within = omega (arith, of.root);
      small = of.image.0;
      wide = directories_end file of.image;
      headers = apart.cli_header;
    }
room file header root source (Appended address offset) of apart fits =
    let some = fits.in_range.alignments.bytes in
    let after : length file ≤ offset = omega (arith, fits.is_slot.2.offset_is, above (field_of file FileAlignment) (length file) some) in
    let long = above (field_of file FileAlignment) (length root) some in
    record {
      kept = omega arith;
      longer = omega arith;
      header_kept = of.header_within;
      root_after = omega (arith, of.header_within, apart.cli_header);
      header_clear = inl (omega (arith, of.header_within));
      root_within = omega arith;
      small = fits.in_range.result;
      wide = directories_end file of.image;
      headers = apart.cli_header;
    }
room file header root source (Extended within) of apart fits =
    let longer = fits.is_slot.2 in
    let some = fits.in_range.alignments.bytes in
    let after : full_size file (last file) ≤ within = omega (arith, longer.within_is, above 4 (full_size file (last file)) (omega arith)) in
    let long = above (field_of file FileAlignment) (within + length root) some in
    let size : raw_size file (last file) ≤ full_size file (last file) = omega arith in
    record {
      kept = elim longer.ends as (λ _. raw_end file (last file) ≤ length file) [ inl h ↦ omega arith | inr h ↦ omega (arith, h.0) ];
      longer = omega arith;
      header_kept = longer.header_before;
      root_after = omega (arith, longer.header_before, apart.cli_header);
      header_clear = inl (omega (arith, longer.header_before));
      root_within = omega arith;
      small = fits.in_range.result;
      wide = directories_end file of.image;
      headers = apart.cli_header;
    }

-- each change is within the bytes that stay
pub changes_within : (name : StrongName) (file : List ℕ) (header : CliHeader) (root : List ℕ) (source : Source) (slot : Slot) (len : ℕ) → IsHeaderOf file header
    → AreHeadersApart file header → FitsAt file (length root) header source slot → header.place + 72 ≤ len
    → AllWithin len (header_changes name file root header slot)
changes_within Keep file header root source Reused len of apart fits ends = let wide = directories_end file of.image in search arith
changes_within Clear file header root source Reused len of apart fits ends = let wide = directories_end file of.image in search arith
changes_within _ file header root source _ len of apart fits ends = let wide = directories_end file of.image in search arith

-- between fields of the PE headers that change
abbrev pub InGap : List ℕ → ℕ → ℕ → Type 0
InGap file at count =
    (at + count ≤ lfanew file + 4)
    ⊎ (((lfanew file + 8 ≤ at) × (at + count ≤ lfanew file + 32))
    ⊎ (((lfanew file + 92 ≤ at) × (at + count ≤ lfanew file + 152 + wider file))
    ⊎ ((lfanew file + 160 + wider file ≤ at) × (at + count ≤ sections_offset file))))

-- Machine and the number of sections
abbrev pub InCount : List ℕ → ℕ → ℕ → Type 0
InCount file at count = (lfanew file + 4 ≤ at) × (at + count ≤ lfanew file + 8)

-- between fields of the section headers that change
abbrev pub InSectionGap : Slot → List ℕ → ℕ → ℕ → Type 0
InSectionGap Reused file at count = InCount file at count ⊎ ((sections_offset file ≤ at) × (at + count ≤ headers_end file))
InSectionGap (Appended address offset) file at count = (sections_offset file ≤ at) × (at + count ≤ headers_end file)
InSectionGap (Extended within) file at count =
    InCount file at count
    ⊎ (((sections_offset file ≤ at) × (at + count ≤ section_offset file (last file) + 8))
    ⊎ (((section_offset file (last file) + 12 ≤ at) × (at + count ≤ section_offset file (last file) + 16))
    ⊎ ((section_offset file (last file) + 20 ≤ at) × (at + count ≤ headers_end file))))

-- between fields of the CLI header that change, those of the strong name only if it is cleared
abbrev pub InHeaderGap : StrongName → CliHeader → ℕ → ℕ → Type 0
InHeaderGap Keep header at count =
    ((header.place ≤ at) × (at + count ≤ header.place + 8)) ⊎ ((header.place + 16 ≤ at) × (at + count ≤ header.place + 72))
InHeaderGap Clear header at count =
    ((header.place ≤ at) × (at + count ≤ header.place + 8))
    ⊎ (((header.place + 20 ≤ at) × (at + count ≤ header.place + 32))
    ⊎ ((header.place + 40 ≤ at) × (at + count ≤ header.place + 72)))

-- what no change of the headers is in
abbrev pub IsUnchanged : StrongName → List ℕ → CliHeader → Slot → ℕ → ℕ → Type 0
IsUnchanged name file header slot at count = InGap file at count ⊎ (InSectionGap slot file at count ⊎ InHeaderGap name header at count)

-- no change is in a part, nor the checksum, and it comes before the end of the section headers or is in the CLI header
abbrev pub IsApart : StrongName → List ℕ → CliHeader → List ℕ → Slot → ℕ → ℕ → Type 0
IsApart name file header root slot at count =
    AllApart at count (header_changes name file root header slot)
    × (lfanew file + 88 < at + count → lfanew file + 92 ≤ at)
    × (headers_end file < at + count → header.place ≤ at)
    × (at + count ≤ header.place + 72)

pub unchanged : (name : StrongName) (file : List ℕ) (header : CliHeader) (root : List ℕ) (source : Source) (slot : Slot) (at count : ℕ) → IsHeaderOf file header
    → AreHeadersApart file header → FitsAt file (length root) header source slot → IsUnchanged name file header slot at count → IsApart name file header root slot at count
unchanged Keep file header root source Reused at count of apart fits gap = let wide = directories_end file of.image in search arith
unchanged Clear file header root source Reused at count of apart fits gap = let wide = directories_end file of.image in search arith
unchanged _ file header root source _ at count of apart fits gap = let wide = directories_end file of.image in search arith

-- bytes that are zeros, by their begin and end
pub zeros_at : (file : List ℕ) (start stop count : ℕ) → count ≡ stop - start → start + count ≤ length file
    → take (stop - start) (drop start file) ≡ replicate (length (take (stop - start) (drop start file))) 0 → part file start count ≡ replicate count 0
zeros_at file start stop count size within zeros =
    ap (λ (n : ℕ). part file start n) size
    ∙ zeros
    ∙ ap (λ (n : ℕ). replicate n 0) (omega (arith, length-take (stop - start) (drop start file), length-drop start file))
