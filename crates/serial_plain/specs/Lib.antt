-- What the slow program of the serial order keeps.
pub mod PlainSerial
