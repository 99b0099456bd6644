pub mod Flows
pub mod Spines
pub mod Forms
pub mod Complete
pub mod Sound
pub mod Parts
pub mod Walks
