pub mod ConversionLaws
pub mod TypeSteps
pub mod PrintLaws
pub mod PairLaws
pub mod ClosureLaws
pub mod OperandLaws
