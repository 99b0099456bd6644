pub mod Looked
pub mod Functions
pub mod CondArguments
pub mod Pieces
pub mod CondCalls
pub mod CondFinished
pub mod CondRuns
