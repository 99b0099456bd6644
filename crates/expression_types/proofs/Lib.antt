pub mod Sees
pub mod Numbers
pub mod PartsRead
pub mod Expressions
pub mod Calls
pub mod Typed
