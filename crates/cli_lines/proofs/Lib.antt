pub mod DigitLemmas
pub mod PlainLemmas
pub mod Prelude
pub mod TextLemmas
pub mod NameLemmas
pub mod JsonLemmas
pub mod LineLemmas
pub mod PrintedLemmas
