pub mod ChoiceTrees
pub mod ItemLaws
pub mod Leaves
pub mod Depths
