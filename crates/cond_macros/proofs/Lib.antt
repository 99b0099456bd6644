pub mod Cores
pub mod PieceLemmas
pub mod NameLemmas
pub mod CallLemmas
pub mod TurnLemmas
pub mod ArgumentLemmas
pub mod CondRunLemmas
