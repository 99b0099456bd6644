pub mod Reads
pub mod Active
