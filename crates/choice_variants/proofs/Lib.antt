pub mod Adding
pub mod Placing
pub mod Listing
