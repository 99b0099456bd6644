pub mod PlainDefinitions
pub mod Counts
pub mod PlainUnits
pub mod Faults
pub mod MapLaws
pub mod GlobalsLaws
