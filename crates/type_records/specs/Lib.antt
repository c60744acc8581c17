pub mod Kinds
pub mod Listed
pub mod Shapes
pub mod Signatures
pub mod Values
