pub mod NumberLemmas
pub mod SumLemmas
pub mod ShiftLemmas
pub mod ProductLemmas
pub mod QuotientLemmas
