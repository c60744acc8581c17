pub mod ListedLemmas
pub mod RowLemmas
