pub mod Questions
pub mod Steps
