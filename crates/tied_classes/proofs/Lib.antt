pub mod Numbers
pub mod Features
pub mod Told
