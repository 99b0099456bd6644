-- Steps of a meaning by what is seen.
use Rattle.std.specs.Prelude.{List, [], ◌∷◌}

-- one step after the other
abbrev pub after_each : {M A : Type 0} → (M → A → M) → M → List A → M
after_each next m [] = m
after_each next m (first ∷ others) = after_each next (next m first) others
