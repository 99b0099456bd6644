pub mod Outcomes
pub mod Below
pub mod Owned
pub mod Readings
pub mod CondLevels
pub mod CondReplacements
