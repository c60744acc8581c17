pub mod Constructors
pub mod Signatures
pub mod Types
pub mod Params
pub mod Texts
pub mod ItemTexts
