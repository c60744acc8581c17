mod MarshalLemmas
mod ParamLemmas
mod GenericLemmas
mod ParamExists
mod ParamNames
mod ClassNames
mod Prelude
mod ReferenceLemmas
pub mod DescriptorLemmas
