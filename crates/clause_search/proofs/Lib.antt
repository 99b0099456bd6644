pub mod TurnLaws
pub mod NumberLaws
pub mod KnownLaws
pub mod DecisionLaws
pub mod FollowingLaws
