pub mod Numbered
pub mod Firsts
pub mod Kinds
pub mod Bound
pub mod Slots
pub mod Laws
