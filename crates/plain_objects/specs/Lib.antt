pub mod PlainStates
pub mod FileNames
pub mod Completion
pub mod UnitShapes
pub mod FirstScalars
pub mod Objects
pub mod Placing
pub mod Sizes
