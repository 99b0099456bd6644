pub mod Entities
pub mod Bringing
pub mod Punctuated
pub mod Identifiers
pub mod Bound
pub mod ClassByHand
pub mod Judged
