pub mod Courses
pub mod Least
mod Admit
mod Tokens
mod Quick
