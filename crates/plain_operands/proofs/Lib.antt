pub mod OperatorFacts
pub mod MemberFacts
