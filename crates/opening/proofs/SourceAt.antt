-- The parts that are read from a root are those that its bytes encode.
use Rattle.opening.proofs.Prelude.{◌≡◌, ℕ, ◌+◌, List, ◌++◌, Result, Ok, Err, ap, ◌∙◌, subst, Fault, AllHold, FirstBroken, Reports, rebased, rules_of_root, Strings, Guids, Blobs, root_read, Sizes, rules_of_stream, numbers_at, stream_in, rules_of_tables, rules_of_metadata, all_append, all_back, fails_back, fails_prefix, none_fails, Budget, BoundedError, FailsWithin, IsSpent, rules_before_cells, rules_of_tables_in, IsSpentIn, TextsSpendIn, SourceAt, tables_in, tables_offset, source_of, source_at}
use Rattle.schema.specs.Header.{sizes_of}
use Rattle.checks.specs.declared.budget.BoundedError.TheVariants as bounded
use Rattle.opening.proofs.Parts.{second_fails, third_fails, all_hold}

pub located_is : (root : List ℕ) (offset at : ℕ) (here : SourceAt) (tables texts blobs guids : List ℕ) (sizes : Sizes) → here.source ≡ record { sizes = sizes; numbers = numbers_at tables sizes; texts = texts; blobs = blobs; guids = guids } → here.offset ≡ offset + at → at ≡ tables_offset root → tables ≡ tables_in root → sizes ≡ sizes_of tables → texts ≡ stream_in root (root_read root).headers Strings → blobs ≡ stream_in root (root_read root).headers Blobs → guids ≡ stream_in root (root_read root).headers Guids → here ≡ source_at offset root
located_is root offset at here tables texts blobs guids sizes source is_offset is_at is_tables is_sizes is_texts is_blobs is_guids =
    let sizes_are : sizes ≡ sizes_of (tables_in root) = is_sizes ∙ ap sizes_of is_tables in
    let same : here.source ≡ source_of root = source ∙ (λ i. record { sizes = sizes_are i; numbers = numbers_at (is_tables i) (sizes_are i); texts = is_texts i; blobs = is_blobs i; guids = is_guids i }) in
    let moved : here.offset ≡ offset + tables_offset root = is_offset ∙ ap (λ n. offset + n) is_at in
    λ i. record { source = same i; offset = moved i }

module _ (root : List ℕ) (offset at : ℕ) (tables : List ℕ) (is_tables : tables ≡ tables_in root) (is_at : at ≡ tables_offset root) where
  pub stream_breaks : (found : Fault) → FirstBroken (rebased (offset + at) (rules_of_stream tables)) found
      → FirstBroken (rebased (offset + tables_offset root) (rules_of_stream (tables_in root))) found
  stream_breaks found first =
      subst (λ n. FirstBroken (rebased (offset + n) (rules_of_stream (tables_in root))) found) is_at (subst (λ t. FirstBroken (rebased (offset + at) (rules_of_stream t)) found) is_tables first)

  pub stream_fails : (found : Fault) → AllHold (rebased offset (rules_of_root root)) → FirstBroken (rebased (offset + at) (rules_of_stream tables)) found → FirstBroken (rules_of_metadata offset root) found
  unfolding rules_of_metadata
  stream_fails found all first =
      second_fails (rebased offset (rules_of_root root)) (rebased (offset + tables_offset root) (rules_of_stream (tables_in root))) (rules_of_tables (source_at offset root)) found
      all (stream_breaks found first)

  pub stream_holds : AllHold (rebased (offset + at) (rules_of_stream tables)) → AllHold (rebased (offset + tables_offset root) (rules_of_stream (tables_in root)))
  stream_holds more = subst (λ n. AllHold (rebased (offset + n) (rules_of_stream (tables_in root)))) is_at (subst (λ t. AllHold (rebased (offset + at) (rules_of_stream t))) is_tables more)

pub root_fails : (root : List ℕ) (offset : ℕ) (found : Fault) → FirstBroken (rebased offset (rules_of_root root)) found → FirstBroken (rules_of_metadata offset root) found
unfolding rules_of_metadata
root_fails root offset found first =
    fails_prefix (rebased offset (rules_of_root root)) (rebased (offset + tables_offset root) (rules_of_stream (tables_in root)) ++ rules_of_tables (source_at offset root)) found first

module _ (root : List ℕ) (offset : ℕ) (here : SourceAt) (is : here ≡ source_at offset root) (all : AllHold (rebased offset (rules_of_root root))) (more : AllHold (rebased (offset + tables_offset root) (rules_of_stream (tables_in root)))) where
  pub tables_fail : (found : Fault) → FirstBroken (rules_of_tables here) found → FirstBroken (rules_of_metadata offset root) found
  unfolding rules_of_metadata
  tables_fail found first =
      third_fails (rebased offset (rules_of_root root)) (rebased (offset + tables_offset root) (rules_of_stream (tables_in root))) (rules_of_tables (source_at offset root)) found
      all more (rw is at first)

  -- the rules before those for cells hold
  pub before_cells_hold : AllHold (rules_before_cells offset root)
  unfolding rules_before_cells
  before_cells_hold = all_append (rebased offset (rules_of_root root)) (rules_of_tables_in offset root) all more

  pub tables_fail_within : (budget : Budget) (error : BoundedError) → FailsWithin (IsSpent budget here) (rules_of_tables here) error → FailsWithin (IsSpentIn budget offset root) (rules_of_metadata offset root) error
  tables_fail_within budget (bounded.Fault found) reported = tables_fail found reported
  tables_fail_within budget bounded.BudgetSpent reported = (before_cells_hold, subst (IsSpent budget) is reported)

  pub metadata_holds : AllHold (rules_of_tables here) → AllHold (rules_of_metadata offset root)
  unfolding rules_of_metadata
  metadata_holds holds =
      all_hold (rebased offset (rules_of_root root)) (rebased (offset + tables_offset root) (rules_of_stream (tables_in root))) (rules_of_tables (source_at offset root))
      all more (rw is at holds)

-- the rules before those for cells: for the directory, and then for the table stream
module _ (root : List ℕ) (offset : ℕ) where
  pub directory_breaks : (found : Fault) → FirstBroken (rebased offset (rules_of_root root)) found → FirstBroken (rules_before_cells offset root) found
  unfolding rules_before_cells
  directory_breaks found first = fails_prefix (rebased offset (rules_of_root root)) (rules_of_tables_in offset root) found first

  pub before_cells_report : {X : Type 0} (r : Result X Fault) → AllHold (rebased offset (rules_of_root root)) → Reports (rules_of_tables_in offset root) r
      → Reports (rules_before_cells offset root) r
  unfolding rules_before_cells
  before_cells_report (Ok x) all more = all_append (rebased offset (rules_of_root root)) (rules_of_tables_in offset root) all more
  before_cells_report (Err found) all first = fails_back (rebased offset (rules_of_root root)) (rules_of_tables_in offset root) found all first

  -- if one of them does not hold, texts do not spend the budget
  pub directory_breaks_first : (budget : Budget) (found : Fault) → FirstBroken (rebased offset (rules_of_root root)) found → ¬ TextsSpendIn budget offset root
  directory_breaks_first budget found first spent = none_fails (rules_before_cells offset root) found spent.0 (directory_breaks found first)

  pub stream_breaks_first : (budget : Budget) (found : Fault) → FirstBroken (rules_of_tables_in offset root) found → ¬ TextsSpendIn budget offset root
  unfolding rules_before_cells
  stream_breaks_first budget found first spent =
      none_fails (rules_of_tables_in offset root) found (all_back (rebased offset (rules_of_root root)) (rules_of_tables_in offset root) spent.0) first
