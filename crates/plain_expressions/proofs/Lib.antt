pub mod TextFacts
pub mod Shapes
pub mod NodeLaws
pub mod Answering
pub mod ArgumentLaws
pub mod ConstantLaws
