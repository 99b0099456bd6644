pub mod Depths
pub mod SeenTags
pub mod SeenSorts
