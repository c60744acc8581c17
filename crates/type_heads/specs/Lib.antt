pub mod FlagWords
pub mod Heads
