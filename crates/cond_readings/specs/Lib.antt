pub mod Readings
pub mod Tests
pub mod Settings
pub mod TakenLaws
