pub mod Piece
pub mod Memory
pub mod Buffer
pub mod Numbers
pub mod Tso
pub mod Change
