pub mod SameTokens
pub mod Declared
pub mod Programs
