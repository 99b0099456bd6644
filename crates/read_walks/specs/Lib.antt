pub mod WalkReads
pub mod SourceReads
pub mod Tests
pub mod Laws
