pub mod Parameters
pub mod FileNames
pub mod Structs
pub mod Functions
pub mod Items
pub mod Names
pub mod FirstValues
