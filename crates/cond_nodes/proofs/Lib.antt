pub mod Led
pub mod Arms
