pub mod Seen
pub mod Parts
pub mod Lists
pub mod Reading
pub mod States
pub mod StateLaws
pub mod Alike
