use Rattle.cli_roots.proofs.Prelude.{difference_line}
use Rattle.cli_roots.proofs.differences.print_difference.Goals as goal

pub returns-in-Version-clause-line : goal.returns-in-Version-clause-line
returns-in-Version-clause-line g c = λ model another is also.
    let left = c.version.ensures model (rw (← c.view-one.ensures.view) at is) in
    let right = c.version-in-Version.ensures another (rw (← c.view-other.ensures.view) at also) in
    rw c.in-Version.is (c.print_versions.ensures model another left right)

pub returns-in-UserStrings-clause-line : goal.returns-in-UserStrings-clause-line
unfolding difference_line
returns-in-UserStrings-clause-line g c = λ model another is also.
    let left = c.user-ours.ensures.model model (rw (← c.view-one.ensures.view) at is) in
    let right = c.user-theirs.ensures.model another (rw (← c.view-other.ensures.view) at also) in
    rw (c.in-UserStrings.is, ← left, ← right, ← c.padded_len.ensures, ← c.padded_len-in-UserStrings.ensures, ← c.same_bytes.ensures) c.line.ensures

pub returns-in-RowCount-clause-line : goal.returns-in-RowCount-clause-line
unfolding difference_line
returns-in-RowCount-clause-line g c = λ model another is also.
    let left = c.count.ensures.model model (rw (← c.view-one.ensures.view) at is) in
    let right = c.count-in-RowCount.ensures.model another (rw (← c.view-other.ensures.view) at also) in
    rw (c.in-RowCount.is, ← c.number.ensures.value, ← c.name.ensures, ← left, ← right) c.line-in-RowCount.ensures

pub print_cells-requires : goal.print_cells-requires
print_cells-requires g c = rw c.in-Cell.is at c.requires

pub returns-in-Cell-clause-line : goal.returns-in-Cell-clause-line
returns-in-Cell-clause-line g c = λ model another is also. rw c.in-Cell.is (c.print_cells.ensures.line model another is also)
