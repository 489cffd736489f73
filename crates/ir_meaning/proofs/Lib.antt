pub mod NumberLemmas
pub mod RunLemmas
pub mod ResultLemmas
pub mod ReadyLemmas
