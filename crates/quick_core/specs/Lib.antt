pub mod Present
pub mod CoreProgram
pub mod Laws
