pub mod Line
pub mod Numeral
pub mod ReportLemmas
