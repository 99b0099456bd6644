pub mod ConnectiveLaws
pub mod PrintLaws
pub mod CubeLaws
pub mod ReadingLaws
