pub mod Pushing
pub mod Parts
pub mod Declarators
