pub mod Refactorings
pub mod Lawful
pub mod Laws
