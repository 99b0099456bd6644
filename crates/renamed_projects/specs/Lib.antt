pub mod Projects
pub mod Laws
