mod Replacing
mod Reading
mod Copied
mod Read
mod Texts
mod Predefined
