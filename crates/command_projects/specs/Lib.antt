pub mod Names
pub mod Products
pub mod Faults
pub mod Projects
pub mod Least
