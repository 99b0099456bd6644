pub mod Forms
pub mod Parts
pub mod PartLaws
pub mod CellForms
pub mod CellLaws
pub mod PathLaws
