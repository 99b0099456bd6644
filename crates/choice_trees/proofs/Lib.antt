pub mod Depths
pub mod Parts
pub mod Spelling
