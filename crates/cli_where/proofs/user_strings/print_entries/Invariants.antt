use Rattle.cli_where.proofs.Prelude.{◌≤◌, ◌-◌, ◌^◌, List, flat_map, Printed, Prints, entry_lines, AreEntries, Entry}
use Rattle.cli_where.proofs.user_strings.print_entries.Given as goal

-- with the entries that are left, the lines of all are printed
abbrev pub invariant-loop-string : goal.invariant-loop-string
invariant-loop-string g l = record {
  some : 1 ≤ l.index;
  left : (later : Printed _) (remainder : List Entry) → AreEntries l.heap l.index remainder → Prints l.out later (flat_map entry_lines remainder)
      → (entries : List Entry) × AreEntries l.heap 1 entries × Prints l.initial.out later (flat_map entry_lines entries);
}

abbrev pub decreases-loop-string : goal.decreases-loop-string
decreases-loop-string g l = 2 ^ 24 - l.index
