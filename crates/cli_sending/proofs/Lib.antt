pub mod LetterLemmas
pub mod Prelude
pub mod SentLemmas
