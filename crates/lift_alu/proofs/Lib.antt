pub mod Quiet
pub mod EveryLaw
