pub mod Words
pub mod SignatureText
pub mod RowLines
pub mod TokenLines
pub mod Shown
pub mod MetRows
pub mod Before
