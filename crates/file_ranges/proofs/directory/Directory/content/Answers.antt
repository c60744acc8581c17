use Rattle.std.proofs.Common.{◌≡◌, ◌∙◌, length, take, arith, sym}
use Rattle.file_ranges.proofs.directory.Directory.content.Goals as goal

pub returns-then-tail-size-clause-complete : goal.returns-then-tail-size-clause-complete
returns-then-tail-size-clause-complete c = λ content is.
    let said = c.fields_are_parts.ensures.said _ _ _ is in
    let size : c.u32_at-size.result ≡ length content = c.u32_at-size.ensures.value ∙ sym said.0.0 in
    let within = said.1 in
    let tail = c.split_at.ensures.back_len in
    absurd (omega arith)

pub returns-clause-complete : goal.returns-clause-complete
returns-clause-complete c = λ content is.
    let said = c.fields_are_parts.ensures.said _ _ _ is in
    let size : c.u32_at-size.result ≡ length content = c.u32_at-size.ensures.value ∙ sym said.0.0 in
    c.split_at-2.ensures.front ∙ (λ i. take (size i) (c.split_at.ensures.back i)) ∙ said.0.1.0
