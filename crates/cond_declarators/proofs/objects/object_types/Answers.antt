use Rattle.std.proofs.Common.{true, subst}
use Rattle.std.specs.Prelude.{option_map}
use Rattle.cond_formula.specs.Features.{has}
use Rattle.conditional.specs.Entries.{entries_of, Stands}
use Rattle.conditional.proofs.JudgementLaws.{after_value, after_refusal}
use Rattle.c_tree.specs.Trees.{plain_tree}
use Rattle.choice_trees.specs.ChoiceTrees.{plain_item, item_at}
use Rattle.operand_types.specs.OperandTypes.{outcome_as, renumbered}
use Rattle.operand_rules.specs.PlainOperandTypes.{reason}
use Rattle.type_tables.specs.Forms.{declared_type_form}
use Rattle.cond_declarators.specs.Types.{object_type_in}
use Rattle.cond_declarators.proofs.objects.object_types.Goals as goal

pub returns-clause-shows : goal.returns-clause-shows
returns-clause-shows g c = λ n scope f ty name admitted there shown.
    after_value declared_type_form reason (has n) true
    (outcome_as (renumbered f.by) (object_type_in scope ty (plain_tree c.args.declarator.now) name (option_map (λ item. item_at (has n) (plain_item item.now)) c.args.initialiser)))
    c.args.base.now.refused c.in_ok-all.all c.in_ok-types.types (record { values = c.in_ok-types.ensures.values; refusals = c.in_ok-types.ensures.refusals (has n) }) shown.shown.not_refused
    (c.in_ok-all.ensures.shows n scope f ty name admitted there
    (subst (λ list. Stands (has n) (renumbered f.by ty) (entries_of declared_type_form list)) (Rattle.std.proofs.Common.sym c.deref.ensures.value)
    (record { held = shown.shown.held Rattle.std.proofs.Common.refl; carry = shown.shown.carry })))

pub returns-clause-refused : goal.returns-clause-refused
returns-clause-refused g c = λ n admitted shown.
    after_refusal declared_type_form reason (has n) c.args.base.now.refused c.in_ok-all.all c.in_ok-types.types tt (record { values = c.in_ok-types.ensures.values; refusals = c.in_ok-types.ensures.refusals (has n) })
    (shown.shown.held Rattle.std.proofs.Common.refl)
