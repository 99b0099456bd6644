pub mod Parameters
pub mod Readings
pub mod Types
pub mod Walks
