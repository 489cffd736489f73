-- What the slow programs keep beside the machine.
pub mod Plain
pub mod PlainGates
