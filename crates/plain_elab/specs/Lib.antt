pub mod TextParts
pub mod PlainStates
pub mod Elaborated
