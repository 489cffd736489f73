-- What the contracts of the crate cite: what each command takes, and the plan that the words make.
pub mod Commands
pub mod Lines
pub mod Plans
pub mod Rules
