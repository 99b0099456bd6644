use Rattle.std.proofs.Common.{Bool, List, ap, ◌∙◌}
use Rattle.c_text.specs.Macros as spec
use Rattle.cond_formula.specs.Features.{has}
use Rattle.conditional.specs.declared.entries.Guarded.{Guarded}
use Rattle.macro_table.specs.Features.{macros_at}
use Rattle.cond_bodies.specs.declared.item.Item.{Item}
use Rattle.cond_bodies.specs.CondItems.{items_at}
use Rattle.cond_runs.specs.Looked.{unless}
use Rattle.cond_runs.specs.CondFinished.{given_at}
use Rattle.cond_runs.proofs.finished.Finished.unless_left_open.Goals as goal

pub returns : goal.returns
returns c = λ exact n.
    c.in_ok-f.ensures exact (has n)
    ∙ ap (λ (b : Bool). unless b (given_at exact (has n) c.args.self)) (c.in_ok-left_open.ensures n ∙ ap (λ (l : List (Guarded Item)). spec.ends_in_function (macros_at (has n) c.args.macros.now) (items_at (has n) l)) c.as_slice.ensures.value)
