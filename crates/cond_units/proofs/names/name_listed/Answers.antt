use Rattle.std.proofs.Common.{Bool, subst}
use Rattle.cond_formula.specs.Features.{has}
use Rattle.cond_formula.specs.Conditions.{condition_of, value}
use Rattle.declarator_lists.specs.Entries.{declarator_at}
use Rattle.plain_objects.specs.PlainStates.{plain_storage}
use Rattle.cond_units.specs.Seen.{seen_unit}
use Rattle.cond_units.specs.Declaring.{Declares}
use Rattle.cond_units.specs.Where.{Where}
use Rattle.cond_units.specs.Names.{IsReady, one_name}
use Rattle.cond_units.proofs.names.name_listed.Goals as goal

pub returns-clause-declares : goal.returns-clause-declares
returns-clause-declares g c = λ n globals role admitted.
    subst (λ (b : Bool). Where b
    (Declares (has n) c.args.declaration.now.base.now (one_name globals (plain_storage c.args.declaration.now.storage) (g.B.Behind.rest c.args.declaration.now.behind.now n) (declarator_at (has n) c.args.listed.now).what)
    (IsReady role (declarator_at (has n) c.args.listed.now).what))
    (seen_unit (has n) c.args.unit.now) (seen_unit (has n) c.name_one.new.unit) (value (has n) (condition_of c.in_ok-refused.refused)))
    (c.in_ok-here.ensures (has n)) (c.in_ok-refused.ensures.declares n globals role admitted)
