pub mod HeldLemmas
pub mod WordLemmas
pub mod SlotLemmas
pub mod LifeLaws
pub mod SyncLemmas
pub mod WaitLemmas
