pub mod Analysed
pub mod Captures
pub mod Outcomes
pub mod Asked
