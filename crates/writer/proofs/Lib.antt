pub mod CountLemmas
pub mod LengthLemmas
pub mod PlanLemmas
pub mod PlannedRoots
pub mod Prelude
pub mod TableLemmas
