pub mod CliLemmas
