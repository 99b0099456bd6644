pub mod Lists
pub mod Each
pub mod Structs
pub mod Reading
