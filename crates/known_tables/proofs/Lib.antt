pub mod Finding
pub mod Placing
pub mod Looking
pub mod Showing
pub mod Calling
