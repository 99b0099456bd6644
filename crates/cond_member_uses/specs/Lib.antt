pub mod Noted
pub mod Declared
