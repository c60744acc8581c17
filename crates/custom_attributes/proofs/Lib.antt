pub mod LengthLemmas
pub mod Prelude
pub mod TypeLemmas
pub mod ParamLemmas
pub mod OwnerLemmas
pub mod TextPrelude
pub mod WriterLemmas
pub mod ItemLemmas
