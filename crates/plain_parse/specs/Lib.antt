pub mod Kept
pub mod Frames
pub mod Turns
pub mod Readings
