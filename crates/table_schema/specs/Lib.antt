pub mod CellColumns
pub mod CodedIndexes
pub mod Columns
pub mod Tables
pub mod Tokens
