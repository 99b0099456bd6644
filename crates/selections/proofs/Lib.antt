pub mod Judgings
pub mod Identifiers
pub mod Expressions
pub mod Initialisers
