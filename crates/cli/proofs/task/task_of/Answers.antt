use Rattle.std.proofs.Common.{Ok}
use Rattle.cli.proofs.task.task_of.Goals as goal

pub returns-in-Show : goal.returns-in-Show
returns-in-Show c = rw c.in-Show.is (c.show_of.result, c.show_of.ensures, c.on_files-in-Show.ensures)

pub returns-in-Outline : goal.returns-in-Outline
returns-in-Outline c = rw c.in-Outline.is (Ok c.outline_of.result, rw c.options_of.ensures at c.outline_of.ensures, c.on_files-in-Outline.ensures)

pub returns-in-Token : goal.returns-in-Token
returns-in-Token c = rw c.in-Token.is (c.tokens_of.result, rw c.as_slice.ensures.value at c.tokens_of.ensures, c.on_files-in-Token.ensures)

pub returns-in-Where : goal.returns-in-Where
returns-in-Where c = rw c.in-Where.is (c.where_of.result, c.where_of.ensures, c.on_files-in-Where.ensures)

pub returns-in-Refs : goal.returns-in-Refs
returns-in-Refs c = rw c.in-Refs.is (Ok c.refs_of.result, c.refs_of.ensures, c.on_files-in-Refs.ensures)
