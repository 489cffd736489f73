-- What the contracts of the crate cite: a miss's line, the text of a report, and the reader's steps on lists.
pub mod Miss
pub mod Reading
pub mod Report
