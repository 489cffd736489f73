pub mod Thread
pub mod Registers
pub mod Operands
pub mod Results
pub mod Accesses
pub mod Finishing
pub mod Want
pub mod Laws
