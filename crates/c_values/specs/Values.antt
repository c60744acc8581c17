-- The value of the attribute in a row (ECMA-335 II.22.10, II.23.3).
use Rattle.std.specs.Prelude.{◌≡◌, ℕ, List, Option, Some, option_and_then}
use Rattle.table_schema.specs.declared.table.TableId.TheVariants.{CustomAttribute}
use Rattle.metadata.specs.Cell.{bytes_in, reference_in}
use Rattle.metadata.specs.Metadata.{Metadata, cell_in}
use Rattle.blob_values.specs.declared.types.ArgumentType.{ArgumentType}
use Rattle.blob_values.specs.Values.{AttributeValue}
use Rattle.blob_values.specs.Parts.{IsAttributeValue}
use Rattle.custom_attributes.specs.Params.{params_of_constructor}

-- the types of the parameters of the attribute's constructor
abbrev pub params_at : Metadata → ℕ → Option (List ArgumentType)
params_at model row = option_and_then (λ of. params_of_constructor model of.table of.row) (reference_in (cell_in model CustomAttribute row 1))

-- the attribute has this value: its blob is the value, for the parameters of its constructor
pub record IsValueAt (model : Metadata) (row : ℕ) (v : AttributeValue) : Type 0 where
  pub params : List ArgumentType
  pub types : params_at model row ≡ Some params
  pub is : IsAttributeValue params v (bytes_in (cell_in model CustomAttribute row 2))
