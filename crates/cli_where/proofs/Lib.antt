pub mod FindLemmas
pub mod EntryLemmas
pub mod Prelude
