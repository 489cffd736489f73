-- The machine at one moment, a store that finds no room, and what the machine shows of its threads.
pub mod Machines
pub mod Views
