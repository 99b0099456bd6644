use Rattle.std.proofs.Common.{false, refl, subst}
use Rattle.conditional.specs.Judgements.{Shows, refused}
use Rattle.operand_rules.specs.PlainOperandTypes.{reason}
use Rattle.cond_nodes.proofs.Arms.{always}
use Rattle.cond_selections.specs.Selected.{structure_number}
use Rattle.cond_selections.proofs.structures.no_structure.Goals as goal

pub returns : goal.returns
returns c = λ on.
    subst (λ b. Shows structure_number reason on b (refused tt) c.place.new.self) (always on) ((c.in_ok-place.ensures on).shows false (refused tt) (c.nothing-all.ensures on (refused tt)) (λ t. refl))
