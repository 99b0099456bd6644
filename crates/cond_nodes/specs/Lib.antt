pub mod Reads
pub mod Leading
