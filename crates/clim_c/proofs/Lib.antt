pub mod ComparedLemmas
pub mod HeaderLemmas
pub mod Prelude
pub mod RootLemmas
pub mod SignatureLemmas
pub mod Written
