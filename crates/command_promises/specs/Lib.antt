pub mod Courses
pub mod Writing
pub mod Sayings
pub mod Endings
pub mod Commands
pub mod Promises
pub mod Giving
