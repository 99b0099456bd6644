pub mod Gathered
pub mod Walks
pub mod Standing
pub mod Laws
pub mod Declaring
pub mod Listing
