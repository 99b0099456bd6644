pub mod TextLemmas
pub mod LibraryLemmas
pub mod OutputLemmas
pub mod CallLemmas
