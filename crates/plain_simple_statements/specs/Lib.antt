pub mod Blocks
pub mod Simple
pub mod PlainStatements
pub mod Laws
pub mod Handing
