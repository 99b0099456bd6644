pub mod Numbers
pub mod Written
pub mod Elaborated
pub mod Products
