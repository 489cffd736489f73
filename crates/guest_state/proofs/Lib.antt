pub mod RegisterLemmas
