pub mod CellLemmas
pub mod KeyLemmas
pub mod Prelude
pub mod RowLemmas
