pub mod Growth
pub mod Examples
pub mod Outlines
pub mod NameOrder
pub mod FirstFaults
