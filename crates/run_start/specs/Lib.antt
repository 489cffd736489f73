-- What the contracts of the crate cite.
pub mod Program
pub mod Case
pub mod Refusal
pub mod First
