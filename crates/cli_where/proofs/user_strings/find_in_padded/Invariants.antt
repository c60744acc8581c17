use Rattle.cli_where.proofs.Prelude.{◌≤◌, ◌-◌, ◌^◌, List, map, Adds, Searched, heap_of, AreEntries, Entry, user_region}
use Rattle.cli_where.proofs.user_strings.find_in_padded.Given as goal

-- with the entries that are left, the search has looked at all
abbrev pub invariant-loop-string : goal.invariant-loop-string
invariant-loop-string l = record {
  some : 1 ≤ l.index;
  left : (later : Searched) (remainder : List Entry) → AreEntries l.padded l.index remainder → Adds l.found later (map (user_region (heap_of l.heap)) remainder)
      → (entries : List Entry) × AreEntries l.padded 1 entries × Adds l.initial.found later (map (user_region (heap_of l.heap)) entries);
}

abbrev pub decreases-loop-string : goal.decreases-loop-string
decreases-loop-string l = 2 ^ 24 - l.index
