mod DocumentLemmas
mod ShapeLemmas
mod NameLemmas
mod TextLemmas
mod Whys
mod Exclusion
mod OneFault
mod OneProject
