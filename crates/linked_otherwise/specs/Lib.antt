pub mod Otherwise
pub mod Laws
