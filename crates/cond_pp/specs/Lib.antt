pub mod Walks
pub mod Streams
pub mod Watches
pub mod Laws
