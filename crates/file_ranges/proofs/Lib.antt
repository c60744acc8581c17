pub mod BodyLemmas
pub mod DirectoryLemmas
pub mod LocationLemmas
pub mod Lowest
pub mod Prelude
pub mod SizeLemmas
