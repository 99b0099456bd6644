pub mod Placing
pub mod WordTypes
pub mod Counting
pub mod DeclaratorTypes
pub mod There
pub mod StructsDeclared
