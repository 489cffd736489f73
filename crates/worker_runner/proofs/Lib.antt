pub mod Coupling
pub mod Pairing
pub mod Gathering
pub mod Growing
pub mod Rounding
pub mod Ending
