pub mod Words
pub mod Fits
pub mod Steps
pub mod Laws
