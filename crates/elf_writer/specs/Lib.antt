pub mod ElfField
pub mod ElfFile
pub mod PageAligned
pub mod RowImage
