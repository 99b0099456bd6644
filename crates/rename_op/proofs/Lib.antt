mod Like
mod Products
mod Members
mod Brought
mod NewName
mod AnalysedNames
mod Renamed
mod RenamedTrees
mod FileCaptures
pub mod Named
mod Told
mod Captured
mod First
mod Answered
