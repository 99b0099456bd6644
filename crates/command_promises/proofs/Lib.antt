pub mod Giving
pub mod Writing
pub mod Leading
pub mod Answering
pub mod Fitting
pub mod Promising
pub mod Items
pub mod Causes
