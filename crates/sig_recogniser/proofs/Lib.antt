pub mod ItemLemmas
pub mod Loops
pub mod Noted
pub mod Positions
pub mod Passes
pub mod Prelude
pub mod Recognised
