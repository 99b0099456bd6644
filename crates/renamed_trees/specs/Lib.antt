pub mod RenamedTrees
pub mod Laws
