pub mod Agree
pub mod LittleEndian
pub mod Decoding
