mod Examples
pub mod LexingPieces
pub mod LexingWords
mod LexingLines
mod LexingItems
pub mod Reading
pub mod Swap
pub mod Changed
pub mod ChangedRun
pub mod Behaviour
pub mod Growth
pub mod PlaceLemmas
pub mod UntakenPlaces
pub mod CutLines
