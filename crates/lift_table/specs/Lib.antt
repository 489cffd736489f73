pub mod LiftLines
pub mod LiftTable
pub mod Follow
pub mod Faithful
pub mod Block
