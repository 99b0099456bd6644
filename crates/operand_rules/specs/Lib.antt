pub mod PlainOperandTypes
pub mod Rules
