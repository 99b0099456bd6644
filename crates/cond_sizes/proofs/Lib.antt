pub mod Constants
pub mod Variables
pub mod Nameless
pub mod Placing
pub mod Adding
pub mod PartByPart
pub mod Lists
