-- What the contracts of the crate cite: the spelling of numbers, entries and journals, and reading from the front.
pub mod Entry
pub mod Growing
pub mod Leb128
pub mod Packed
pub mod Reading
