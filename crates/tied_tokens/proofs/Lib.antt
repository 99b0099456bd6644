pub mod Members
pub mod Order
pub mod Possible
pub mod Missing
pub mod Growth
pub mod Reaching
