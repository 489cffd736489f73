pub mod Journal
pub mod Rule
pub mod Words
pub mod Lending
pub mod Lock
