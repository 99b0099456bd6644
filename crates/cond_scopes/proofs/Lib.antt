pub mod Walked
pub mod Choosing
pub mod Growing
pub mod NameReading
pub mod PartReading
pub mod Shown
pub mod Leaving
pub mod UnitLemmas
