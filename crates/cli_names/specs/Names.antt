-- The arguments that name a fault or a table.
use Rattle.std.specs.Prelude.{◌≡◌, ◌≢◌, ◌==◌, ℕ, ◌⊎◌, if◌then◌else◌, List, [], ◌∷◌, ◌++◌, Option, None, Some, find, length, All}
use Rattle.std.specs.Str.{str_eq_ignore_ascii_case}
use Rattle.std.specs.Str.Parse.{digits_value}
use Rattle.packed.specs.declared.code.FaultCode.{FaultCode}
use Rattle.packed.specs.Codes.{codes_in_order, name_of, number_of_code}
use Rattle.table_schema.specs.declared.table.TableId.{TableId}
use Rattle.table_schema.specs.Tables.{table_name, table_number, tables}
use Rattle.cli_names.specs.Numbers.{IsCodeNumber, IsTableNumber}

-- the rule with this name, in any case; some rules have none
abbrev pub code_named : List ℕ → Option FaultCode
code_named name = if length name == 0 then None else find (λ code. str_eq_ignore_ascii_case (name_of (number_of_code code)) name) codes_in_order

-- the argument is the number of a rule in three decimal digits, or else its name
abbrev pub NamesCode : List ℕ → FaultCode → Type 0
NamesCode word code =
    (IsCodeNumber word × (number_of_code code ≡ digits_value 10 word)) ⊎ ((¬ IsCodeNumber word) × (code_named word ≡ Some code))

-- the table with this name, in any case (ECMA-335 II.22)
abbrev pub table_named : List ℕ → Option TableId
table_named name = find (λ table. str_eq_ignore_ascii_case (table_name table) name) tables

-- the argument is the number of a table in two hexadecimal digits, or else its name
abbrev pub NamesTable : List ℕ → TableId → Type 0
NamesTable word table =
    (IsTableNumber word × (table_number table ≡ digits_value 16 word)) ⊎ ((¬ IsTableNumber word) × (table_named word ≡ Some table))

-- the full name of a type: its namespace, a dot and its name; or its name alone. A name has no dot, whose ASCII code is 46
abbrev pub IsFullName : List ℕ → List ℕ → List ℕ → Type 0
IsFullName word namespace name =
    All (λ byte. byte ≢ 46) name × ((word ≡ namespace ++ 46 ∷ name) ⊎ ((namespace ≡ []) × (word ≡ name)))
