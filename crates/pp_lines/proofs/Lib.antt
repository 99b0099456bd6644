pub mod LineLemmas
pub mod ExpressionComplete
pub mod ExpressionWords
pub mod ExpressionSound
pub mod ExpressionOutcomes
pub mod ExpressionValues
