mod Told
mod Numbers
mod Pairs
mod Captured
