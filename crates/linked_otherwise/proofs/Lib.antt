mod Closed
mod Lists
mod Units
pub mod Trees
