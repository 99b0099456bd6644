mod Walks
pub mod Steps
pub mod Readings
mod Before
