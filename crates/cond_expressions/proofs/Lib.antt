pub mod SmallLaws
pub mod Exclusion
pub mod SeenLaws
pub mod Readings
