pub mod PartLemmas
mod LiteralLaws
