pub mod Liftable
pub mod Steps
pub mod Accepted
pub mod Spelled
