pub mod EntryLemmas
pub mod Numbers
pub mod PackedLemmas
