pub mod Bytes
pub mod Names
pub mod Keywords
pub mod FileNames
