pub mod Span
pub mod Files
