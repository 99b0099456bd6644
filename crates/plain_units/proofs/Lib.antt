pub mod Declarators
