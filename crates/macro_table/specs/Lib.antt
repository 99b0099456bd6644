pub mod PlainDefinitions
pub mod MacroTables
pub mod Features
