pub mod Texts
pub mod Explained
pub mod SignatureTexts
pub mod RowTexts
