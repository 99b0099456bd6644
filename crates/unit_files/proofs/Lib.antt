pub mod PathLemmas
pub mod IncludedFiles
pub mod Readings
