-- Paths without the configurations that see a declaration.
use Rattle.std.specs.Prelude.{ℕ, Bool, true, false, not, ◌&&◌, List, [], ◌∷◌, Option, Some, None, Vec}
use Rattle.std.specs.declared.alloc.Global.{Global}
use Rattle.cond_formula.specs.declared.formulas.Formula.{Formula}
use Rattle.cond_formula.specs.Conditions.{conditions_of, value, all_true}
use Rattle.cond_bindings.specs.Bindings.{Visible}

-- no declaration is there
abbrev pub none_there : (ℕ → Bool) → List Visible → Bool
none_there on [] = true
none_there on (v ∷ others) = not (value on v.when) && none_there on others

-- whether the path that is left is true, if there is one
abbrev pub left_on : (ℕ → Bool) → Option (Vec Formula Global) → Bool
left_on on None = false
left_on on (Some path) = all_true on (conditions_of path.items)
