mod Places
mod Staying
mod Shapes
mod Structs
mod OneItem
mod Inside
mod BehindBlock
mod OneBlock
mod OneHead
mod OneDefinition
pub mod BigObjects
pub mod AtEnd
pub mod LeftNames
pub mod LeftUnits
pub mod EachUnit
pub mod Present
pub mod UseLemmas
pub mod Judged
pub mod LeftLemmas
mod NotElaborated
