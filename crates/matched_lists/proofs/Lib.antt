pub mod Places
pub mod PairLaws
pub mod RowLaws
pub mod Seen
