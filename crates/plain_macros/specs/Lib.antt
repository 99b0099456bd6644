pub mod PlainCalls
pub mod PlainItems
pub mod PlainLevels
pub mod PlainMeanings
pub mod PlainTables
pub mod PlainReplacements
pub mod PlainRuns
