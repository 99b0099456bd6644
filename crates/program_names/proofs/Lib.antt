pub mod Bound
pub mod OneToOne
pub mod External
pub mod Declared
pub mod Linked
