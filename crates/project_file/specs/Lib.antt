pub mod Documents
pub mod Contents
pub mod Texts
pub mod Projects
pub mod Faults
pub mod View
pub mod Checks
pub mod Laws
