mod Said
mod Decided
mod Concluding
mod Refactored
mod Standing
mod Sources
mod Kept
