-- Lemmas of the serial order.
pub mod SerialPlain
pub mod Young
pub mod RoundsPlain
