pub mod Cores
pub mod Items
pub mod Parameters
pub mod LongFormLemmas
pub mod Prelude
