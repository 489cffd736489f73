-- The case of a run, and the plain machine with its journals.
pub mod CaseData
pub mod Conversions
pub mod State
pub mod Step
pub mod Frames
pub mod Play
pub mod Gated
pub mod Serial
pub mod Comes
pub mod Own
pub mod OwnLaws
pub mod InBlocks
pub mod Ready
