pub mod Declares
pub mod Safety
pub mod Rows
pub mod Lists
pub mod Declarators
pub mod Units
