pub mod Slots
pub mod PlainPlaces
pub mod WordLists
pub mod PlainMoves
