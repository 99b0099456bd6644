pub mod PlainDeclared
pub mod Entries
pub mod PlainLocals
pub mod Locals
pub mod FirstValues
