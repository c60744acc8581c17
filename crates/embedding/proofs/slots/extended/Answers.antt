use Rattle.embedding.proofs.Prelude.{◌≡◌, ◌-◌, arith, ap, ◌∙◌, ℕ, aligned, raw_end, last}
use Rattle.embedding.proofs.slots.extended.Goals as goal

pub returns-clause-section : goal.returns-clause-section
returns-clause-section c =
    let file = c.args.headers.now in
    let section = c.last_section-section.ensures in
    let last_is : c.section_count-2.result - 1 ≡ last file = ap (λ (n : ℕ). n - 1) c.section_count-2.ensures.value in
    let stop : c.raw_end-end.result ≡ raw_end file (last file) = omega (arith, section.raw_offset, section.raw_size, c.raw_end-end.ensures) in
    let before = rw last_is at (c.are_before.ensures.0 c.if-not-are_before.false) in
    record {
      some = omega (arith, c.section_count.ensures.value);
      within_is = c.aligned-within.ensures ∙ ap (aligned 4) (omega (arith, c.full_size.ensures, section.virtual_size, section.raw_size));
      last_in_memory = λ index below. (before index below).0;
      last_in_file = λ index below. (before index below).1;
      header_before = omega (arith, stop);
      ends = rw stop at (c.ends_file.ensures.0 c.if-not-ends_file.false);
    }
