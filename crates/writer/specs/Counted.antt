-- A writer whose failures are counted, as contracts see it.
use Rattle.std.specs.Prelude.{ℕ}
use Rattle.writer.specs.declared.counted.Counted.{Counted}

-- the writer
abbrev pub writer_of : {W : Type 0} → Counted W → W
writer_of counted = counted.writer

-- the number of calls that failed
abbrev pub failures_of : {W : Type 0} → Counted W → ℕ
failures_of counted = counted.failures
