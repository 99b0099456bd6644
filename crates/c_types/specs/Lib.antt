pub mod Types
pub mod TypeLaws
pub mod Integers
pub mod Arithmetic
pub mod Tags
pub mod Printed
pub mod Compatible
pub mod Pairs
