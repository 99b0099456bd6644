pub mod Lists
pub mod Numbers
pub mod Found
pub mod Told
pub mod Seen
