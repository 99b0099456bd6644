-- What is left of an output whose writing ended early.
use Rattle.std.specs.Prelude.{◌≡◌, ℕ, List, ◌++◌}

-- more bytes make part the whole
pub record IsBegun (part whole : List ℕ) : Type 0 where
  pub more : List ℕ
  pub joined : part ++ more ≡ whole
