pub mod Moved
pub mod Outcomes
pub mod Trees
pub mod Products
pub mod Decided
