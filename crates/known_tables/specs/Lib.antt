pub mod Searches
pub mod Lookups
pub mod Calls
pub mod Numbers
