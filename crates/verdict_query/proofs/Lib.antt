pub mod FewerFeatures
pub mod Refuted
