pub mod Decided
pub mod Admitted
