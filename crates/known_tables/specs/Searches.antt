-- How far a search has come: an aid of proofs, no further definition.
use Rattle.std.specs.Prelude.{◌≡◌, ℕ, Bool, true, false, List, Option}
use Rattle.cond_formula.specs.Conditions.{condition_of, value}
use Rattle.conditional.specs.Entries.{Entry, alternatives, some_holds, Sees}
use Rattle.known_tables.specs.declared.searches.Search.{Search}

-- the whole has been found, or else nothing, and the whole is what comes next
abbrev pub FoundOrNext : {P : Type 0} → (ℕ → Bool) → Bool → Option P → Option P → List (Entry P) → Type 0
FoundOrNext on false whole next found = Sees on whole found
FoundOrNext on true whole next found = (some_holds on found ≡ false) × (whole ≡ next)

pub record Finds {T P : Type 0} (form : T → P) (on : ℕ → Bool) (whole next : Option P) (search : Search T) : Type 0 where
  pub finds : FoundOrNext on (value on (condition_of search.rest)) whole next (alternatives form search.found)
