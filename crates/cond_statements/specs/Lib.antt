pub mod Following
pub mod Roles
pub mod Uses
pub mod Results
pub mod Ready
pub mod Readings
