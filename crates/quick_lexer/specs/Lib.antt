pub mod View
pub mod Lines
pub mod Output
pub mod Reserved
