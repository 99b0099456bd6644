pub mod Lists
pub mod InTurn
pub mod Judged
