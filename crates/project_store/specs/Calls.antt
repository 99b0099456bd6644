use Rattle.std.specs.Prelude.{◌≡◌, ℕ, List, Contains}
use Rattle.project_store.specs.declared.calls.Calls.{Calls}
use Rattle.project_store.specs.Faults.{raised}

-- no call was made yet, and the calls with these numbers shall fail
pub record IsFresh (failing : List ℕ) (calls : Calls) : Type 0 where
  pub made : calls.made ≡ 0
  pub failing_are : calls.failing.items ≡ failing

-- the number of the next call, counted from 1, is among those that shall fail
abbrev pub NextFails : Calls → Type 0
NextFails calls = Contains calls.failing.items (raised calls.made)

-- one more call was made, and the calls that shall fail are the same
pub record CountsCall (before after : Calls) : Type 0 where
  pub made : after.made ≡ raised before.made
  pub failing : after.failing ≡ before.failing
