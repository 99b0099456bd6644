mod Apart
mod Captures
