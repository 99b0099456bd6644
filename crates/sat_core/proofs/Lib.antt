pub mod BoolLaws
pub mod ClauseLaws
pub mod NodeLaws
pub mod TranslationLaws
pub mod AcceptanceLaws
pub mod NumberingLaws
pub mod ConfigLaws
pub mod LeastLaws
