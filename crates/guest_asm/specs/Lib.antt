pub mod Places
pub mod Pieces
pub mod Encodable
pub mod Choices
pub mod Assembling
