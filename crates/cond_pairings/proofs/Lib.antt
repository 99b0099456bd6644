pub mod Walks
pub mod Chained
pub mod Firsts
