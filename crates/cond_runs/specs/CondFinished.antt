-- What lists become, seen in a configuration.
use Rattle.std.specs.Prelude.{ℕ, Bool, List, map, Option, Some}
use Rattle.c_text.specs.Macros as spec
use Rattle.cond_formula.specs.Conditions.{condition_of, value}
use Rattle.cond_bodies.specs.CondItems.{items_at}
use Rattle.cond_runs.specs.Looked.{looked, unless}
use Rattle.cond_runs.specs.declared.finished.Finished.{Finished}

unfoldable pub given_at : Bool → (ℕ → Bool) → Finished → Option (List spec.Item)
given_at exact on f = unless (value on (condition_of f.refused)) (Some (map (looked exact) (items_at on f.items.items)))
