pub mod PlainDirectives
pub mod ParameterPlaces
pub mod ExpressionReading
pub mod ExpressionView
pub mod Laws
pub mod Values
