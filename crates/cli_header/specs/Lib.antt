pub mod Rules
pub mod Header
pub mod Said
