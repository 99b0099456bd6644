pub mod Correspondences
pub mod Alike
pub mod Starts
pub mod Extraction
pub mod Inlining
pub mod Laws
pub mod WorkedPairs
pub mod WorkedTrees
