pub mod Deaths
pub mod DeathLaws
pub mod Units
