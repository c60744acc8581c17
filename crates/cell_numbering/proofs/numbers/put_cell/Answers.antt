use Rattle.cell_numbering.proofs.Prelude.{◌≡◌, ◌<◌, Option, None, length, sym, ap, subst, ◌∙◌, arith, IfSome, get_or_read, not_there, on_ok_weaker, ColumnKind, cell_in, HasRow, kind_at, Shows, cell_number, no_pools, with_number}
use Rattle.cell_numbering.specs.PlainColumns.{IsPlainIn, IsPlainNumber, Plain, number_in}
use Rattle.cell_numbering.proofs.KindLemmas.{IsPlainKind, cell_fits, next_text, next_guid, next_blob, next_signature, next_plain, plain_cell}
use Rattle.cell_numbering.proofs.numbers.put_cell.Goals as goal

pub returns-in-Text-clause-ok : goal.returns-in-Text-clause-ok
returns-in-Text-clause-ok g c = λ model is.
    let of_kind = cell_fits model (c.holds_one.ensures.valid model is) c.args.table c.args.row c.args.cell_index _ (c.holds_one.ensures.rows model is c.args.table) c.requires.first c.requires.last c.requires.cell_index in
    on_ok_weaker c.put_text.result (λ e. e ∙ sym (next_text c.args.indexes _ _ c.args.so_far.now of_kind (sym c.kind_of-kind.ensures ∙ c.in-Text.is))) c.put_text.ensures

pub returns-in-Guid-clause-ok : goal.returns-in-Guid-clause-ok
returns-in-Guid-clause-ok g c = λ model is.
    let of_kind = cell_fits model (c.holds_one.ensures.valid model is) c.args.table c.args.row c.args.cell_index _ (c.holds_one.ensures.rows model is c.args.table) c.requires.first c.requires.last c.requires.cell_index in
    on_ok_weaker c.put_guid.result (λ e. e ∙ sym (next_guid c.args.indexes _ _ c.args.so_far.now of_kind (sym c.kind_of-kind.ensures ∙ c.in-Guid.is))) c.put_guid.ensures

pub returns-in-Blob-clause-ok : goal.returns-in-Blob-clause-ok
returns-in-Blob-clause-ok g c = λ model is.
    let of_kind = cell_fits model (c.holds_one.ensures.valid model is) c.args.table c.args.row c.args.cell_index _ (c.holds_one.ensures.rows model is c.args.table) c.requires.first c.requires.last c.requires.cell_index in
    on_ok_weaker c.put_blob.result (λ e. e ∙ sym (next_blob c.args.indexes _ _ c.args.so_far.now of_kind (sym c.kind_of-kind.ensures ∙ c.in-Blob.is))) c.put_blob.ensures

pub returns-in-Signature-clause-ok : goal.returns-in-Signature-clause-ok
returns-in-Signature-clause-ok g c = λ model is.
    let of_kind = cell_fits model (c.holds_one.ensures.valid model is) c.args.table c.args.row c.args.cell_index _ (c.holds_one.ensures.rows model is c.args.table) c.requires.first c.requires.last c.requires.cell_index in
    on_ok_weaker c.put_blob-in-Signature.result (λ e. e ∙ sym (next_signature c.args.indexes _ _ c.args.so_far.now of_kind c.in-Signature.field-0 (sym c.kind_of-kind.ensures ∙ c.in-Signature.is))) c.put_blob-in-Signature.ensures

pub plain_number-requires : goal.plain_number-requires
plain_number-requires g c = λ none. not_there c.holds_one.ensures.shown (λ some.
    let table = c.args.table in
    let row = c.args.row in
    let cell_index = c.args.cell_index in
    let cell = cell_in some.0 table row cell_index in
    let there : HasRow some.0 table row = (c.requires.first, omega (arith, c.holds_one.ensures.rows some.0 some.1 table, c.requires.last)) in
    let valid = c.holds_one.ensures.valid some.0 some.1 in
    let good = valid.cells table row cell_index there c.requires.cell_index in
    let kind = c.kind_of-kind.ensures in
    let plain : IsPlainKind (kind_at table cell_index) = record {
      text = λ e. c.in_default-kind.not-Text (kind ∙ e);
      guid = λ e. c.in_default-kind.not-Guid (kind ∙ e);
      blob = λ e. c.in_default-kind.not-Blob (kind ∙ e);
      signature = λ column e. c.in_default-kind.not-Signature column (kind ∙ e);
    } in
    let P : ColumnKind → Type 0 = λ k. Shows k c.cell_onward-seen.result cell in
    none (
      cell,
      subst P (sym kind) (c.cell_onward-seen.ensures.cell some.0 some.1),
      c.cells_can_be_numbered.ensures.cell some.0 valid table row cell_index there c.requires.cell_index,
      plain_cell (kind_at table cell_index) cell plain good.of_kind,
    ))

pub returns-in_default-kind-clause-ok : goal.returns-in_default-kind-clause-ok
returns-in_default-kind-clause-ok g c = λ model is.
    let table = c.args.table in
    let cell_index = c.args.cell_index in
    let cell = cell_in model table c.args.row cell_index in
    let there : HasRow model table c.args.row = (c.requires.first, omega (arith, c.holds_one.ensures.rows model is table, c.requires.last)) in
    let good = (c.holds_one.ensures.valid model is).cells table c.args.row cell_index there c.requires.cell_index in
    let kind = c.kind_of-kind.ensures in
    let plain : IsPlainKind (kind_at table cell_index) = record {
      text = λ e. c.in_default-kind.not-Text (kind ∙ e);
      guid = λ e. c.in_default-kind.not-Guid (kind ∙ e);
      blob = λ e. c.in_default-kind.not-Blob (kind ∙ e);
      signature = λ column e. c.in_default-kind.not-Signature column (kind ∙ e);
    } in
    let P : ColumnKind → Type 0 = λ k. Shows k c.cell_onward-seen.result cell in
    let number = c.plain_number.ensures cell (subst P (sym kind) (c.cell_onward-seen.ensures.cell model is)) ∙ ap (λ (k : ColumnKind). cell_number no_pools k cell) kind in
    on_ok_weaker c.put_number-in_default-kind.result (λ e. e ∙ ap (with_number c.args.so_far.now) number ∙ sym (next_plain c.args.indexes (kind_at table cell_index) cell c.args.so_far.now (plain_cell (kind_at table cell_index) cell plain good.of_kind))) c.put_number-in_default-kind.ensures

pub number-requires : goal.number-requires
number-requires g c =
    let table = c.args.table in
    let i = c.args.cell_index in
    let plain = c.args.plain.now in
    let within : i < length plain = omega (arith, c.requires.plain.len, c.requires.cell_index) in
    let is = sym (get_or_read plain i c.index-plain-cell_index.result within c.index-plain-cell_index.is None) ∙ c.in-Some.is in
    let P : Option Plain → Type 0 = λ o. IfSome o (λ plain. plain.column.count ≡ g.S.ReadMetadata.row_count c.args.source.now table) in
    let count : c.in-Some.column.column.count ≡ g.S.ReadMetadata.row_count c.args.source.now table = subst P is (c.requires.plain.counts i c.requires.cell_index) in
    record { first = c.requires.first; last = omega (arith, c.requires.last, count) }

pub returns-in-Some-clause-ok : goal.returns-in-Some-clause-ok
returns-in-Some-clause-ok g c = λ model shown.
    let table = c.args.table in
    let i = c.args.cell_index in
    let plain = c.args.plain.now in
    let within : i < length plain = omega (arith, c.requires.plain.len, c.requires.cell_index) in
    let is = sym (get_or_read plain i c.index-plain-cell_index.result within c.index-plain-cell_index.is None) ∙ c.in-Some.is in
    let cell = cell_in model table c.args.row i in
    let rows = c.holds_one.ensures.rows model shown table in
    let P : Option Plain → Type 0 = λ o. IfSome o (IsPlainIn model table i) in
    let here : IsPlainNumber (kind_at table i) (number_in c.in-Some.column c.args.row) cell =
    subst P is (c.requires.plain.plain model shown i c.requires.cell_index) c.args.row c.requires.first (omega (arith, rows, c.requires.last)) in
    on_ok_weaker c.put_number.result
    (λ e. e ∙ ap (with_number c.args.so_far.now) (c.number.ensures ∙ here.number_is) ∙ sym (next_plain c.args.indexes (kind_at table i) cell c.args.so_far.now here.none))
    c.put_number.ensures
