pub mod EntryLemmas
pub mod StackLemmas
pub mod LayoutLemmas
