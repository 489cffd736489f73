-- What the laws of lives speak of.
pub mod Lives
pub mod Others
pub mod Cases
pub mod Controls
