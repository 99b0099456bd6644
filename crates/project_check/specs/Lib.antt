pub mod Parsed
pub mod Broken
pub mod Checked
