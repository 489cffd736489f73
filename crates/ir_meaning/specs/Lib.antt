pub mod Width
pub mod Family
pub mod Does
pub mod Ready
pub mod Live
pub mod Needs
