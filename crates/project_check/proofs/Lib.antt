pub mod UnitLemmas
pub mod Present
pub mod BrokenLemmas
pub mod LeastBroken
