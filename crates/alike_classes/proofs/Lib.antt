pub mod Projects
pub mod Classes
pub mod Preconditions
pub mod Named
