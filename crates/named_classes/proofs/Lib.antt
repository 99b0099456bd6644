mod Ordered
mod One
mod Texts
mod Named
