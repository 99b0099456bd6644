pub mod View
pub mod Values
