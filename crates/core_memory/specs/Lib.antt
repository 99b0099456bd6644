pub mod MemoryForms
pub mod PointerForms
pub mod OperationForms
pub mod OperationLaws
pub mod TextForms
pub mod InitialForms
