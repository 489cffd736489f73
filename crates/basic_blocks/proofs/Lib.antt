pub mod Blocks
mod Fitting
mod Onward
