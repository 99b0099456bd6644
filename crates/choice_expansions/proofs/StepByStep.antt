-- Steps one after the other.
use Rattle.std.proofs.Common.{◌≡◌, ℕ, ◌+◌, ◌<◌, ◌≤◌, Bool, true, false, List, ◌∷◌, map, drop, length, get_or, if◌then◌else◌, refl, ap, ◌∙◌}
use Rattle.std.proofs.lemmas.List.{drop_all}
use Rattle.cond_formula.specs.Conditions.{value}
use Rattle.conditional.specs.Entries.{Entry, seen}
use Rattle.conditional.proofs.ListLaws.{item_of}
use Rattle.choice_expansions.specs.Steps.{after_each}

module _ {M A T : Type 0} (on : ℕ → Bool) (next : M → A → M) (entry : T → Entry A) (list : List T) where
  -- what comes of the entries from one place on
  abbrev pub still : ℕ → M → M
  still i m = after_each next m (seen on (map entry (drop i list)))

  by_test : (t : Bool) (what : A) (rest : List A) (m : M) → after_each next m (if t then what ∷ rest else rest) ≡ after_each next (if t then next m what else m) rest
  by_test true what rest m = refl
  by_test false what rest m = refl

  pub one_step :
      (i : ℕ) (x : T) (m : M) → i < length list → x ≡ get_or list i x
      → still i m ≡ still (i + 1) (if value on (entry x).when then next m (entry x).what else m)
  one_step i x m within is =
      ap (λ others. after_each next m (seen on (map entry others))) (item_of list x i within is)
      ∙ by_test (value on (entry x).when) (entry x).what (seen on (map entry (drop (i + 1) list))) m

  pub no_step : (i : ℕ) (m : M) → length list ≤ i → still i m ≡ m
  no_step i m past = ap (λ others. after_each next m (seen on (map entry others))) (drop_all i list past)
