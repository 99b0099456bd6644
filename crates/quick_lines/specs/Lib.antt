pub mod Spellings
pub mod SpelledLines
pub mod Laws
