-- Which rows have a line.
use Rattle.std.specs.Prelude.{◌&&◌, ℕ, Bool, true, List, Option, None, Some, is_some, filter}
use Rattle.table_schema.specs.declared.table.TableId.{TableId}
use Rattle.table_schema.specs.declared.table.TableId.TheVariants.{Param}
use Rattle.table_schema.specs.declared.token.Token.{Token}
use Rattle.table_schema.specs.Tokens.{token_at}
use Rattle.metadata.specs.Metadata.{Metadata}
use Rattle.navigation.specs.declared.links.Link.TheVariants as linked_by
use Rattle.navigation.specs.Linked.{first_linked}
use Rattle.visible_rows.specs.Visible.{is_visible}
use Rattle.visible_rows.specs.declared.visible.VisibleRows.{VisibleRows}
use Rattle.cli_names.specs.declared.source.OutlineOptions.{OutlineOptions}
use Rattle.cli_names.specs.declared.source.Rows.{Rows}
use Rattle.cli_names.specs.declared.source.Rows.TheVariants.{All, Visible}

-- A row has a line of its own. Of parameters only those with a default value (II.22.9) have one, because the lines of methods
-- have their flags and names.
abbrev pub has_line : Metadata → TableId → ℕ → Bool
has_line model Param row = is_some (first_linked model linked_by.Constants (token_at Param row))
has_line model _ row = true

-- a row is among those that are asked for
abbrev pub is_among : Rows → Metadata → Token → Bool
is_among All model of = true
is_among Visible model of = is_visible model of

abbrev pub is_shown : OutlineOptions → Metadata → Token → Bool
is_shown options model of = has_line model of.table of.row && is_among options.rows model of

-- those of some rows that have a line
abbrev pub shown_rows : OutlineOptions → Metadata → List Token → List Token
shown_rows options model rows = filter (is_shown options model) rows

-- the rows that are asked for, by whether the visible ones are known
abbrev pub asked : Option VisibleRows → Rows
asked None = All
asked (Some rows) = Visible
