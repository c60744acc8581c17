pub mod ColumnsNamed
pub mod Prelude
pub mod NamedEach
pub mod EmbedRuns
pub mod OneCheck
