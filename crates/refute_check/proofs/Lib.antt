pub mod CheckerLaws
pub mod FormLaws
pub mod HintLaws
pub mod Soundness
pub mod StoreLaws
