pub mod Runs
pub mod Fitting
pub mod Structs
pub mod Names
pub mod Items
pub mod Uses
pub mod Alike
pub mod Many
