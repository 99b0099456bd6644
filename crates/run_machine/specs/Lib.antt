pub mod Machines
pub mod Frames
