pub mod Locals
pub mod OneObject
pub mod OneDeclarator
pub mod Walking
pub mod Parts
pub mod OneDeclaration
