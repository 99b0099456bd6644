mod NumberLemmas
mod ValueLemmas
