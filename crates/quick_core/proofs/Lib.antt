pub mod Values
pub mod Cells
pub mod Sums
pub mod Codes
pub mod Starts
pub mod Numbers
