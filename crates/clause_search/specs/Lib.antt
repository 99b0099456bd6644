pub mod Least
pub mod LeastLaws
pub mod Answers
pub mod Following
pub mod Known
pub mod Searches
pub mod WatchedNumbers
