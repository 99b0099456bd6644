pub mod Uses
pub mod Walks
pub mod Declarations
pub mod Laws
