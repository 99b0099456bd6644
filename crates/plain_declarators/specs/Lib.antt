pub mod Words
pub mod PlainBased
pub mod Bound
pub mod Sequences
pub mod Shapes
pub mod Progress
