mod Strings
mod Ascii
mod Formulas
mod Firsts
mod Texts
mod Faults
pub mod TomlStrings
pub mod TomlTables
pub mod TomlTexts
