pub mod Prelude
pub mod RuleLemmas
mod FieldLemmas
mod NumberLemmas
mod PackedLemmas
mod ShortLemmas
mod SignedLemmas
