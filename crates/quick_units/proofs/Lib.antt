pub mod Nests
pub mod Spaced
pub mod Runs
pub mod Parts
pub mod Groups
pub mod UnitTexts
