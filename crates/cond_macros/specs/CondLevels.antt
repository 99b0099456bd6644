-- What stands for a name in a list of one level, seen in a configuration.
use Rattle.std.specs.Prelude.{ℕ, Bool, List, map, Option}
use Rattle.c_text.specs.Macros as spec
use Rattle.cond_formula.specs.Features.{has}
use Rattle.cond_formula.specs.Conditions.{condition_of, value}
use Rattle.macro_table.specs.Features.{macros_at}
use Rattle.cond_bodies.specs.Cores.{cores}
use Rattle.cond_bodies.specs.declared.levels.Level.{Level}
use Rattle.cond_macros.specs.Below.{below, unless_any}
use Rattle.cond_runs.specs.CondArguments.{lists_at}
use Rattle.cond_macros.specs.declared.replacing.Replaced.{Replaced}

abbrev pub macros_in : List Bool → Level → spec.Table
macros_in c level = macros_at (has c) level.macros

abbrev pub active_in : Level → List (List ℕ)
active_in level = map (λ name. name.now.text.items) level.active.now

abbrev pub deeper_in : List Bool → Level → spec.Deeper
deeper_in c level = below (macros_in c level) level.left

-- whether a call of a list is looked at in a configuration
abbrev pub is_within : List Bool → Level → Bool
is_within c level = value (has c) (condition_of level.within.now)

-- the arguments of a call, each replaced by itself
abbrev pub replaced_at : (ℕ → Bool) → Replaced → Option (List (List spec.Item))
replaced_at on r = unless_any (value on (condition_of r.refused)) (map cores (lists_at on r.lists.items))
