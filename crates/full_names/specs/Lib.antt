pub mod Quoted
pub mod Names
pub mod Scopes
pub mod RowNames
pub mod SignatureBytes
pub mod TextEnd
pub mod Texts
