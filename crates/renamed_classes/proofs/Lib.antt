mod Stable
pub mod Occurring
pub mod Given
mod TextLines
pub mod OneName
mod Fits
mod NoMacros
mod MainAlike
pub mod Told
mod Touched
