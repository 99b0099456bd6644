pub mod BodyLaws
pub mod FunctionLaws
pub mod OwnerLaws
pub mod ProgramLaws
