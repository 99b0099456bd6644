pub mod Functions
pub mod Parameters
pub mod Declarators
pub mod Items
pub mod Ends
pub mod Closing
