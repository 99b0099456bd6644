use Rattle.std.proofs.Common.{◌||◌, refl, ap, ◌∙◌, subst}
use Rattle.cond_formula.specs.Features.{has}
use Rattle.cond_formula.specs.Conditions.{condition_of, value}
use Rattle.conditional.specs.Entries.{seen, listed}
use Rattle.c_tree.specs.Trees.{plain_tree}
use Rattle.type_tables.specs.Forms.{declared_type_form}
use Rattle.cond_parameters.specs.Walks.{State, state_of, Adds}
use Rattle.cond_parameters.proofs.Seeing.{same_state}
use Rattle.cond_parameters.proofs.Steps.{shown_next}
use Rattle.cond_parameters.proofs.walks.declare_tree.Goals as goal

pub returns-clause-declares : goal.returns-clause-declares
returns-clause-declares g c = λ n by scope behind r admitted shown.
    shown_next by scope c.args.defining behind (plain_tree c.args.expansion.now.tree) (value (has n) (condition_of c.args.expansion.now.when)) c.is_void_parameter-is_void.result
    (value (has n) (condition_of c.args.stood.now.some)) (value (has n) (condition_of c.args.stood.now.void))
    (value (has n) (condition_of c.stand.new.self.some)) (value (has n) (condition_of c.stand.new.self.void)) r
    (state_of (has n) c.args.all.now c.args.tables.now) (state_of (has n) c.add_unless_void.new.all c.add_unless_void.new.tables)
    c.is_void_parameter-is_void.ensures (c.in_ok-stand.ensures.some (has n)) (c.in_ok-stand.ensures.void (has n))
    (subst
    (λ (s : State). Adds c.args.defining (value (has n) (condition_of c.args.expansion.now.when)) c.is_void_parameter-is_void.result (plain_tree c.args.expansion.now.tree) s
    (state_of (has n) c.add_unless_void.new.all c.add_unless_void.new.tables))
    (same_state _ _ _ _ _ _ (ap (λ types. seen (has n) (listed declared_type_form types)) c.in_ok-refuse.ensures.types)
    (c.in_ok-refuse.ensures.refused n admitted ∙ ap (λ b. value (has n) (condition_of c.args.all.now.refused) || b) (c.in_ok-beside.ensures (has n))) refl)
    (c.in_ok-add_unless_void.ensures.adds n (ap (value (has n)) c.in_ok-refuse.ensures.kept ∙ admitted)))
    shown
