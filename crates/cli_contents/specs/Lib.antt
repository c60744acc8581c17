pub mod Bodies
pub mod FieldData
pub mod Contents
pub mod Lines
