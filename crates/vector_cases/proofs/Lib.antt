mod Copies
mod FieldLemmas
mod LineLemmas
mod Lookups
