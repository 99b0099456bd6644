pub mod Beginnings
pub mod Pushing
pub mod SpotLaws
