pub mod Width
pub mod Register
pub mod Virtual
