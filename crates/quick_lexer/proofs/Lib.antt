pub mod WordLemmas
pub mod PieceLemmas
pub mod ReservedLemmas
mod RenamingLemmas
