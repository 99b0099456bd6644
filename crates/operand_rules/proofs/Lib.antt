pub mod SameOperands
pub mod Answering
pub mod Knowledge
pub mod Loads
pub mod ConditionRules
pub mod PrefixRules
pub mod AssignmentRules
pub mod CombinationRules
