pub mod Answer
pub mod Cuts
pub mod Fronts
pub mod Visits
pub mod Readings
pub mod Scans
pub mod Laws
