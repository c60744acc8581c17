pub mod Bodies
pub mod ClassSizes
pub mod FieldData
pub mod Fields
pub mod Occupied
pub mod Read
pub mod Resources
