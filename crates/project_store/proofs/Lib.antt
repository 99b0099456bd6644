pub mod Counts
pub mod FirstNamed
pub mod PackedLemmas
mod ReadLemmas
