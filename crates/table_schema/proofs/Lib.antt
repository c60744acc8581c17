pub mod CellColumnLemmas
pub mod CodedLemmas
pub mod TableFacts
pub mod TableOrder
