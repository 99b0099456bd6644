pub mod Renamed
pub mod Pairs
pub mod Laws
