mod Behind
mod SpineReads
mod Leading
pub mod Walks
mod Sources
mod TestLemmas
