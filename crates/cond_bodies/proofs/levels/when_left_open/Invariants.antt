use Rattle.std.proofs.Common.{◌≡◌, List, Bool, drop}
use Rattle.c_text.specs.Macros as spec
use Rattle.cond_formula.specs.Features.{has}
use Rattle.cond_formula.specs.Conditions.{condition_of, value}
use Rattle.macro_table.specs.Features.{macros_at}
use Rattle.cond_bodies.specs.CondItems.{items_at}
use Rattle.cond_bodies.proofs.LevelLemmas.{ends_from}
use Rattle.cond_bodies.proofs.levels.when_left_open.Given as goal

abbrev pub invariant-loop-entry : goal.invariant-loop-entry
invariant-loop-entry l = (c : List Bool) →
    ends_from (macros_at (has c) l.macros) (value (has c) (condition_of l.left_open)) (items_at (has c) (drop l.entry-index l.items))
    ≡ spec.ends_in_function (macros_at (has c) l.macros) (items_at (has c) l.items)
