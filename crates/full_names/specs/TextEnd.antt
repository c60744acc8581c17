-- How far a sink wrote a text.
use Rattle.std.specs.Prelude.{⊤, Option, Some}
use Rattle.full_names.specs.declared.text_end.TextEnd.{TextEnd}
use Rattle.full_names.specs.declared.text_end.TextEnd.TheVariants.{Error}

-- as far as its writer needs it: no part of it was refused
abbrev pub IsWhole : Option TextEnd → Type 0
IsWhole (Some (Error error)) = ⊥
IsWhole _ = ⊤
