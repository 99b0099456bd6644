pub mod MemoryLemmas
pub mod PointerLemmas
pub mod TextLemmas
pub mod InitialLemmas
