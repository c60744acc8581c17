-- The token that a number encodes, if tokens are read as numbers encode them.
use Rattle.std.proofs.Common.{◌≡◌, ℕ, Option, Some, None, refl, sym, IfSome}
use Rattle.table_schema.specs.declared.token.Token.{Token}
use Rattle.table_schema.specs.declared.table.TableId.{TableId}
use Rattle.table_schema.specs.declared.coded.Coded.TheVariants.{TypeDefOrRef}
use Rattle.table_schema.specs.CodedIndexes.{IsCoded}
use Rattle.sig_grammar.specs.Reading.{token_of}

abbrev Names : ℕ → Token → Type 0
Names n token = IsCoded TypeDefOrRef n token.table token.row

pub no_token : ((n : ℕ) → IfSome (token_of n) (λ token. IsCoded TypeDefOrRef n token.table token.row)) → (n : ℕ) (r : Option (TableId × ℕ)) → r ≡ None → ((table : TableId) (row : ℕ) → IsCoded TypeDefOrRef n table row → r ≡ Some (table, row)) → None ≡ token_of n
no_token found n r none only = of_option (token_of n) (found n)
  where
    of_option : (o : Option Token) → IfSome o (Names n) → None ≡ o
    of_option None is = refl
    of_option (Some t) is = absurd (let e = only t.table t.row is in cc)

pub one_token : ((n : ℕ) (token : Token) → IsCoded TypeDefOrRef n token.table token.row → token_of n ≡ Some token) → (n : ℕ) (table : TableId) (row : ℕ) → IsCoded TypeDefOrRef n table row → Some (record { table = table; row = row }) ≡ token_of n
one_token only n table row is = sym (only n (record { table = table; row = row }) is)
