pub mod Variants
