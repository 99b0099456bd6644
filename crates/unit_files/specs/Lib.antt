pub mod Refusals
pub mod Inclusions
pub mod SourceFiles
pub mod Roles
pub mod Tests
pub mod Settings
pub mod Laws
