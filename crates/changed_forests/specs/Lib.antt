pub mod Changed
pub mod Renamed
pub mod Numbered
pub mod Laws
