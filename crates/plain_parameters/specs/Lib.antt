pub mod PlainParameters
pub mod Parameters
