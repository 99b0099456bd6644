pub mod Spans
pub mod ListedEdits
pub mod Counts
pub mod Standing
pub mod Members
pub mod Searching
