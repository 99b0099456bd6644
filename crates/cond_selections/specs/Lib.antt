pub mod Selected
pub mod Progress
