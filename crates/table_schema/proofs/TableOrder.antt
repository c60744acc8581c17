-- The numbers of the tables rise with their positions.
use Rattle.std.proofs.Common.{ℕ, zero, suc, ◌<◌, ◌≤◌, List, [], ◌∷◌, length, get_or, ap, arith, lit≤}
use Rattle.table_schema.specs.declared.table.TableId.{TableId}
use Rattle.table_schema.specs.declared.table.TableId.TheVariants.{Module}
use Rattle.table_schema.specs.Tables.{tables, table_number, table_index_of}
use Rattle.table_schema.proofs.TableFacts.{table_at_index, table_index_below, length-tables}

-- the numbers of the tables increase, from a number on
abbrev pub IsAscending : ℕ → List TableId → Type 0
IsAscending low [] = Unit {0}
IsAscending low (table ∷ listed) = (low ≤ table_number table) × IsAscending (suc (table_number table)) listed

pub ascending : IsAscending 0 tables
unfolding tables
ascending = (lit≤ tt, (lit≤ tt, (lit≤ tt, (lit≤ tt, (lit≤ tt, (lit≤ tt, (lit≤ tt, (lit≤ tt, (lit≤ tt, (lit≤ tt, (lit≤ tt, (lit≤ tt, (lit≤ tt, (lit≤ tt, (lit≤ tt, (lit≤ tt, (lit≤ tt, (lit≤ tt, (lit≤ tt, (lit≤ tt, (lit≤ tt, (lit≤ tt, (lit≤ tt, (lit≤ tt, (lit≤ tt, (lit≤ tt, (lit≤ tt, (lit≤ tt, (lit≤ tt, (lit≤ tt, (lit≤ tt, (lit≤ tt, (lit≤ tt, (lit≤ tt, (lit≤ tt, (lit≤ tt, (lit≤ tt, (lit≤ tt, tt))))))))))))))))))))))))))))))))))))))

pub above : (low n : ℕ) (listed : List TableId) (i : ℕ) (none : TableId) → IsAscending low listed → i < length listed → low ≤ table_number (get_or listed i none)
above low n [] i none up below = absurd (omega arith)
above low n (table ∷ listed) zero none up below = up.0
above low n (table ∷ listed) (suc i) none up below = omega (arith, up.0, above (suc (table_number table)) n listed i none up.1 (omega arith))

-- numbers increase with table indexes
rises : (low : ℕ) (listed : List TableId) (i k : ℕ) (none : TableId) → IsAscending low listed → i < k → k < length listed → table_number (get_or listed i none) < table_number (get_or listed k none)
rises low [] i k none up less below = absurd (omega arith)
rises low (table ∷ listed) i zero none up less below = absurd (omega arith)
rises low (table ∷ listed) zero (suc k) none up less below = omega (arith, above (suc (table_number table)) 0 listed k none up.1 (omega arith))
rises low (table ∷ listed) (suc i) (suc k) none up less below = rises (suc (table_number table)) listed i k none up.1 (omega arith) (omega arith)

pub numbers_rise : (lower higher : TableId) → table_index_of lower < table_index_of higher → table_number lower < table_number higher
numbers_rise lower higher less =
    let all = rises 0 tables (table_index_of lower) (table_index_of higher) Module ascending less (omega (arith, table_index_below higher, length-tables)) in
    let a = ap table_number (table_at_index lower) in
    let b = ap table_number (table_at_index higher) in
    omega (arith, all, a, b)
