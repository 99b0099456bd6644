pub mod Programs
pub mod Steps
pub mod Laws
