pub mod UnitLemmas
pub mod ParsedLemmas
pub mod RefusalLemmas
