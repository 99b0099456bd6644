pub mod Machines
pub mod Units
