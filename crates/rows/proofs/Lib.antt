pub mod BytesLemmas
pub mod HalvingLemmas
pub mod OffsetLemmas
pub mod Prelude
pub mod RowBytesLemmas
pub mod RowLemmas
