-- The attributes that a C caller names by their rows (II.22.10).
use Rattle.std.specs.Prelude.{◌≡◌, ◌≤◌, ℕ, true}
use Rattle.table_schema.specs.declared.table.TableId.TheVariants.{CustomAttribute}
use Rattle.opening.specs.Views.{row_count}
use Rattle.clim_c.specs.declared.view.ClimView.{ClimView}

-- the view is open, and its root has the row of CustomAttribute
abbrev pub IsOpenAttribute : ClimView → ℕ → Type 0
IsOpenAttribute view row = (view.is_open ≡ true) × (1 ≤ row) × (row ≤ row_count view.root.now CustomAttribute)
