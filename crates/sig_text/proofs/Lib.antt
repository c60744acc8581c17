pub mod Arms
pub mod Bodies
pub mod Calls
pub mod Chains
pub mod Encoded
pub mod MarksShown
pub mod Prelude
pub mod ShapeShown
