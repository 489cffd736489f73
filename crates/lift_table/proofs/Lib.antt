pub mod LiftNumbers
pub mod LiftWords
pub mod LiftFollow
pub mod LiftAlu
pub mod LiftMoves
pub mod LiftArith
