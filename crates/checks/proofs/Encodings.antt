-- What a check of a blob says about the rules for its signature.
use Rattle.checks.proofs.Prelude.{◌≡◌, ℕ, List, Some, None, Result, refl, sym, slice_index, inl, inr, FaultCode, BadSignature, SignatureIndex, Reports, AllHold, FirstBroken, fault, IsBlob, TableId, Token, Column, SigKind, column_at, Source, rows_in, number_of, SourceAt, cell_offset, rules_of_encoding, rules_of_signature, code_at}
use Rattle.table_schema.specs.declared.column.ColumnKind.TheVariants as kind
use Rattle.table_schema.specs.Tables.{table_number}
use Rattle.sig_grammar.specs.Encodes.{Encodes, tokens, first_bad}
use Rattle.sig_grammar.specs.Syntax.{Body}
use Rattle.metadata.proofs.TokenLemmas.{all_there, none_bad}

-- the check of a number in a column reports the rules for its signature
pub encoding_reports : (here : SourceAt) (table : TableId) (row column number : ℕ) (held : Column) {X : Type 0} (r : Result X FaultCode) → held ≡ column_at table column → number ≡ number_of here.source table row column → ((offset : ℕ) → Reports (rules_of_encoding here.source held.kind number offset) (code_at offset r)) → Reports (rules_of_signature here table row column) (code_at (cell_offset here table row column) r)
unfolding rules_of_signature
encoding_reports here table row column number held r is_held is_number reports =
    rw (is_held, is_number) at (reports (cell_offset here table row column))

-- a blob that encodes no signature, or no blob
pub no_signature : (source : Source) (column : SigKind) (number offset : ℕ) → ((blob : List ℕ) → IsBlob source.blobs number blob → (signature : Body) → ¬ Encodes column signature blob)
    → FirstBroken (rules_of_encoding source (kind.Signature column) number offset) (fault BadSignature offset)
no_signature source column number offset none = inl (λ has. none has.0 has.2 has.1 has.3, refl)

module _ (source : Source) (counts : List ℕ) (counted : (table : TableId) → slice_index counts (table_number table) ≡ rows_in source table) (column : SigKind) (number offset : ℕ) where
  -- a blob that encodes a signature whose tokens have rows
  pub is_met : (blob : List ℕ) → IsBlob source.blobs number blob → (signature : Body) × Encodes column signature blob × (None ≡ first_bad counts (tokens signature)) → AllHold (rules_of_encoding source (kind.Signature column) number offset)
  is_met blob is some = ((blob, some.0, is, some.1, tt), ((blob, some.0, is, some.1, all_there (rows_in source) counts counted (tokens some.0) (sym some.2)), tt))

  -- a blob that encodes a signature one of whose tokens has no row
  pub no_row : (blob : List ℕ) (bad : Token) → IsBlob source.blobs number blob → ((other : List ℕ) → IsBlob source.blobs number other → blob ≡ other) → (signature : Body) × Encodes column signature blob × (Some bad ≡ first_bad counts (tokens signature)) → ((signature : Body) → Encodes column signature blob → Some bad ≡ first_bad counts (tokens signature)) → FirstBroken (rules_of_encoding source (kind.Signature column) number offset) (fault SignatureIndex offset)
  no_row blob bad is one some only = inr (
    (blob, some.0, is, some.1, tt),
    inl (
      λ has.
          let same = one has.0 has.2 in
          let e = only has.1 (rw (← same) at has.3) in
          let f = none_bad (rows_in source) counts counted (tokens has.1) has.4 in
          absurd cc,
      refl,
    ),
  )
