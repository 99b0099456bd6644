pub mod Owners
pub mod Bodies
pub mod Functions
pub mod Globals
