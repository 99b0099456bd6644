use Rattle.std.proofs.Common.{◌&&◌, ap, ◌∙◌}
use Rattle.cond_formula.specs.Features.{has}
use Rattle.cond_formula.specs.Conditions.{condition_of, value}
use Rattle.conditional.specs.Judgements.{checked}
use Rattle.c_tree.specs.Trees.{plain_tree}
use Rattle.operand_rules.specs.PlainOperandTypes.{reason}
use Rattle.type_tables.specs.Forms.{declared_type_form}
use Rattle.type_tables.specs.Seen.{seen_tables}
use Rattle.cond_declarators.proofs.StructsDeclared.{next_placed}
use Rattle.cond_declarators.proofs.declaring.declare_expansion.Goals as goal

pub returns-clause-places : goal.returns-clause-places
returns-clause-places g c = λ n admitted here.
    next_placed (has n) (value (has n) (condition_of c.args.expansion.now.when)) (condition_of c.in_ok-here.here) (plain_tree c.args.expansion.now.tree)
    (seen_tables (has n) c.args.tables.now) (seen_tables (has n) c.declare_tree.new.tables) (checked declared_type_form reason c.in_ok-outcome.outcome) c.args.all.now c.place.new.self
    (c.in_ok-here.ensures (has n)
    ∙ ap (λ b. b && value (has n) (condition_of c.args.expansion.now.when)) here)
    (c.in_ok-outcome.ensures (has n)) (c.in_ok-place.ensures (has n))
