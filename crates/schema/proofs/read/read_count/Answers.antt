use Rattle.schema.proofs.Prelude.{◌≡◌, ℕ, ◌∙◌, ap, sym, inl, arith, RowCount, fault, little_endian, part, has_bit, valid_of, count_in}
use Rattle.schema.proofs.HeaderLemmas.{bit_there, count_within, count_counted, count_uncounted}
use Rattle.schema.proofs.read.read_count.Goals as goal

pub returns-then-not-is_set-clause-reports : goal.returns-then-not-is_set-clause-reports
returns-then-not-is_set-clause-reports c =
    let clear = bit_there c.args.bytes.now c.args.valid c.args.table _ _ c.requires.valid c.is_set.ensures c.if-not-is_set.true in
    let none = count_uncounted c.args.bytes.now c.args.table clear in
    (omega arith, tt)

pub returns-then-not-is_set-clause-count : goal.returns-then-not-is_set-clause-count
returns-then-not-is_set-clause-count c =
    sym (count_uncounted c.args.bytes.now c.args.table (bit_there c.args.bytes.now c.args.valid c.args.table _ _ c.requires.valid c.is_set.ensures c.if-not-is_set.true))

pub u32_at-count-requires : goal.u32_at-count-requires
u32_at-count-requires c =
    let set = bit_there c.args.bytes.now c.args.valid c.args.table _ _ c.requires.valid c.is_set.ensures c.if-not-is_set.false in
    let within = count_within (has_bit (valid_of c.args.bytes.now)) c.args.table set in
    let offset = c.requires.offset in
    let room = c.requires.room in
    omega arith

pub returns-then-count-gt-ROW_LIMIT-clause-reports : goal.returns-then-count-gt-ROW_LIMIT-clause-reports
returns-then-count-gt-ROW_LIMIT-clause-reports c =
    let set = bit_there c.args.bytes.now c.args.valid c.args.table _ _ c.requires.valid c.is_set.ensures c.if-not-is_set.false in
    let count : c.u32_at-count.result ≡ count_in c.args.bytes.now c.args.table =
    c.u32_at-count.ensures.value ∙ ap (λ (at : ℕ). little_endian (part c.args.bytes.now at 4)) c.requires.offset ∙ sym (count_counted c.args.bytes.now c.args.table set) in
    inl (λ low. omega arith, c.new.ensures ∙ ap (fault RowCount) c.requires.offset)

pub returns-clause-reports : goal.returns-clause-reports
returns-clause-reports c =
    let set = bit_there c.args.bytes.now c.args.valid c.args.table _ _ c.requires.valid c.is_set.ensures c.if-not-is_set.false in
    let count : c.u32_at-count.result ≡ count_in c.args.bytes.now c.args.table =
    c.u32_at-count.ensures.value ∙ ap (λ (at : ℕ). little_endian (part c.args.bytes.now at 4)) c.requires.offset ∙ sym (count_counted c.args.bytes.now c.args.table set) in
    (omega arith, tt)

pub returns-clause-count : goal.returns-clause-count
returns-clause-count c =
    let set = bit_there c.args.bytes.now c.args.valid c.args.table _ _ c.requires.valid c.is_set.ensures c.if-not-is_set.false in
    c.u32_at-count.ensures.value ∙ ap (λ (at : ℕ). little_endian (part c.args.bytes.now at 4)) c.requires.offset ∙ sym (count_counted c.args.bytes.now c.args.table set)
