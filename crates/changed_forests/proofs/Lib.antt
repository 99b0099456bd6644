pub mod Seen
pub mod Appended
pub mod Unchanged
pub mod Sites
