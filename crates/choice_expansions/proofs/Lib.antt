pub mod Choosing
pub mod Crossing
pub mod Deep
pub mod StepByStep
