pub mod TypeLists
