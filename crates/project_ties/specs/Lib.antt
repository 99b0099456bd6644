pub mod Tied
pub mod Projects
