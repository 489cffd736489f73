pub mod FlagLemmas
pub mod AgreeLemmas
pub mod AlikeLemmas
pub mod TypeLemmas
pub mod PassLemmas
