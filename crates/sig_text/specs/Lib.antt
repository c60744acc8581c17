pub mod Declares
pub mod PieceText
pub mod Receives
pub mod Refused
pub mod Shown
pub mod SignatureText
pub mod Wrote
