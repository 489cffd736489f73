pub mod PartLemmas
pub mod Decided
pub mod TypedLemmas
