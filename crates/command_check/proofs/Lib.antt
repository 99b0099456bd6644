mod Decided
mod Concluding
