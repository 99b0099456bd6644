pub mod SaidLemmas
pub mod PathLemmas
