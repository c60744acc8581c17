pub mod ColumnNumbers
pub mod HeapCells
pub mod Keys
pub mod SharedBlobs
pub mod SignatureBytes
