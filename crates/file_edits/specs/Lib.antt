pub mod Edits
pub mod Faults
pub mod Places
pub mod View
