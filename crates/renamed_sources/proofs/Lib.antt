pub mod Renamed
pub mod Present
