pub mod WordLemmas
pub mod StartLemmas
pub mod RowLemmas
