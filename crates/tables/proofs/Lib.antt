pub mod Prelude
pub mod PushLemmas
pub mod SaidLemmas
pub mod CellCheckLemmas
