pub mod PlainLemmas
pub mod PlainPlay
pub mod Closures
pub mod GateWalk
pub mod GatedPlain
