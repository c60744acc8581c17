use Rattle.metadata.proofs.Prelude.{ℕ, List, TableId, Metadata, rows_of, IsModel, source_of}
use Rattle.metadata.proofs.ModelLemmas.{AreRead, version_read, user_read, stream_read, table_read, rows_count, rows_long, rows_cell, tables_long, ordered_read, linked_read}
use Rattle.metadata.proofs.laws.models_are_read.Goals as goal

read : goal.After-numbers_are_read → AreRead
read c = record {
  root_rules_hold = c.roots_are_read.ensures.rules_hold;
  root_said = c.roots_are_read.ensures.said;
  root_found = c.roots_are_read.ensures.sound;
  stream_rules_hold = c.streams_are_read.ensures.rules_hold;
  stream_said = c.streams_are_read.ensures.said;
  stream_found = c.streams_are_read.ensures.sound;
  numbers_are = c.numbers_are_read.ensures.is;
}

pub returns : goal.returns
returns c =
    let known = read c in
    let rows = λ (root : List ℕ) (model : Metadata) (is : IsModel root model) (table : TableId). table_read known root model is table in
    record {
      version = version_read known;
      user = user_read known;
      stream = stream_read known;
      count = λ root model is table. rows_count (source_of root) table (rows_of model table) (rows root model is table);
      cells = λ root model is table. rows_cell (source_of root) table (rows_of model table) (rows root model is table);
      tables = tables_long known;
      long = λ root model is table. rows_long (source_of root) table (rows_of model table) (rows root model is table);
      rules = λ root model is. (ordered_read known root model is, linked_read known root model is);
    }
