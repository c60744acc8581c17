pub mod Buffers
pub mod HexLemmas
pub mod Prelude
pub mod SinkLemmas
pub mod UserLemmas
