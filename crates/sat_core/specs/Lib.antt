pub mod Models
pub mod Nodes
pub mod Translations
pub mod Numbering
pub mod Acceptance
pub mod Answers
