mod CellLemmas
mod KeyedLemmas
mod LinkLemmas
mod LinkModelLemmas
mod NestingLemmas
mod OwnerLemmas
mod Prelude
mod StartLemmas
