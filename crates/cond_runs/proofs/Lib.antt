pub mod Sites
pub mod ArgumentLemmas
pub mod RunLemmas
pub mod OpenLemmas
pub mod ReadLemmas
