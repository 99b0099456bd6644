pub mod PartLists
pub mod PlainMembers
pub mod Binding
pub mod Leading
pub mod Members
pub mod Structs
