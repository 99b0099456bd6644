pub mod Apart
pub mod Faulty
pub mod Gathered
pub mod Mentioned
pub mod SeenUnits
pub mod Several
pub mod Measures
