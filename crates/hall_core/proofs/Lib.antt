pub mod Leaves
pub mod Moved
pub mod EachKind
pub mod Dead
pub mod Filled
pub mod Closing
pub mod Asking
pub mod Spellings
