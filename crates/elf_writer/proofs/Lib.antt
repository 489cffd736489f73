pub mod ElfReading
pub mod ElfParts
pub mod ElfSegments
pub mod ElfSymbols
pub mod ElfWritten
pub mod RowImages
