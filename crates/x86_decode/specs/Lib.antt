pub mod Views
pub mod Dispatch
