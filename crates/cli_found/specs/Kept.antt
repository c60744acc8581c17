-- What a program keeps of a line, for private clauses.
use Rattle.std.specs.Prelude.{◌≡◌, ◌⊎◌, ◌==◌, ◌||◌, ℕ, if◌then◌else◌, List, [], Option, None, Some}
use Rattle.cli_found.specs.Words.{Coded, Part}
use Rattle.cli_lines.specs.Shown.{shown_value}
use Rattle.cli_found.specs.Found.{lead_at, limit_parts, value_text}
use Rattle.cli_found.specs.declared.limits.Limit.{Limit}
use Rattle.cli_found.specs.declared.lines.Lead.{Lead}

abbrev pub shown_limit : Option Limit → List Part
shown_limit None = []
shown_limit (Some of) = limit_parts of.before.now of.name (shown_value of.of) of.limit of.unit.now

abbrev pub shown_found : Lead × Option Limit → Lead × List Part
shown_found found = (found.0, shown_limit found.1)

abbrev pub lead_text : Lead → List ℕ
lead_text lead = value_text lead.offset lead.number lead.coded

-- the number at an offset: numbers in cells, and in the fields of headers but for the longest ones, have these sizes
abbrev pub lead_of : List ℕ → ℕ → ℕ → Option Coded → Option Lead
lead_of bytes offset size coded = if size == 1 || size == 2 || size == 4 then lead_at bytes offset size coded else None

-- the sizes of numbers in headers
abbrev pub IsFieldSize : ℕ → Type 0
IsFieldSize size = (size ≡ 1) ⊎ ((size ≡ 2) ⊎ ((size ≡ 4) ⊎ (size ≡ 8)))
