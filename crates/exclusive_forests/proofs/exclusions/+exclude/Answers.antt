use Rattle.std.proofs.Common.{◌≤◌, not, ◌&&◌, ◌++◌, ◌∷◌, [], subst, sym, ap, ◌∙◌, arith}
use Rattle.std.proofs.lemmas.Iterator.Adapters.{YieldsList-from_vec}
use Rattle.std.proofs.lemmas.Iterator.Consumers.{YieldsList-turn, YieldsList-end}
use Rattle.std.proofs.lemmas.List.{map-id}
use Rattle.cond_formula.specs.declared.formulas.Formula.{Formula}
use Rattle.cond_formula.specs.Conditions.{condition_of, value}
use Rattle.choice_trees.specs.declared.trees.Choice.{Choice}
use Rattle.choice_trees.specs.declared.trees.Item.{Item, Node}
use Rattle.choice_trees.specs.ChoiceTrees.{inner, plain_item, plain_branches, plain_choices}
use Rattle.choice_trees.specs.ItemLaws.{plain_item-Node}
use Rattle.choice_trees.proofs.Depths.{branch_within, choice_within}
use Rattle.choice_trees.specs.Depths.{depth, branches_depth, choices_depth}
use Rattle.exclusive_forests.specs.Apart.{any_holds, ItemApart, ChoiceApart, PartsApart}
use Rattle.exclusive_forests.proofs.ApartLaws.{choice_more, parts_more, node_apart}
use Rattle.exclusive_forests.proofs.exclusions.+exclude.Goals as goal

pub exclusive_choice-exclusive_item-requires : goal.exclusive_choice-exclusive_item-requires
exclusive_choice-exclusive_item-requires t c =
    let gives = c.into_iter-when-iterator.ensures.into_iter_gives in
    let turn = YieldsList-turn (YieldsList-from_vec c.args.choice.branches.items gives.0 (gives.1 ∙ c.args.choice.branches.ok.0)) c.loop-when.yielded c.loop-when.when-iterator c.loop-when.yielded_by c.next.result c.next.new.self (c.in-Some.when, c.in-Some.item) c.in-Some.is c.next.ensures.steps in
    let within : depth (plain_item c.in-Some.item) ≤ branches_depth (plain_branches c.args.choice.branches.items) =
    subst (λ (alternative : Formula × Item). depth (plain_item alternative.1) ≤ branches_depth (plain_branches c.args.choice.branches.items)) (sym turn.1)
    (branch_within c.args.choice.branches.items _ (c.in-Some.when, c.in-Some.item) turn.0) in
    (omega (arith, within, c.decreases), tt)

pub exclusive_choice-loop-when-preserved : goal.exclusive_choice-loop-when-preserved
exclusive_choice-loop-when-preserved t c = λ on.
    subst (λ items. ChoiceApart on (plain_branches (c.loop-when.yielded ++ (c.in-Some.when, c.in-Some.item) ∷ [])) (plain_branches items)) (sym c.in_ok-push.ensures.items)
    (choice_more on c.loop-when.yielded c.loop-when.branches.items c.in-Some.when c.in_ok-when.when c.in-Some.item c.in_ok-item.item
    (c.in_ok-when.ensures on ∙ ap (λ alternatives. value on (condition_of c.in-Some.when) && not (any_holds on (plain_branches alternatives))) c.deref.ensures.value)
    (c.in_ok-item.ensures on) (c.loop-when.invariant on))

pub exclusive_choice-returns : goal.exclusive_choice-returns
exclusive_choice-returns t c = λ on.
    let gives = c.into_iter-when-iterator.ensures.into_iter_gives in
    let all = YieldsList-end (YieldsList-from_vec c.args.choice.branches.items gives.0 (gives.1 ∙ c.args.choice.branches.ok.0)) c.loop-when.yielded c.loop-when.when-iterator c.loop-when.yielded_by c.next.result c.next.new.self c.in-None.is c.next.ensures.steps in
    subst (λ items. ChoiceApart on (plain_branches items) (plain_branches c.loop-when.branches.items)) (sym (map-id c.loop-when.yielded) ∙ all.0) (c.loop-when.invariant on)

pub exclusive_item-returns-in_ok-exclusive_parts-in-Node : goal.exclusive_item-returns-in_ok-exclusive_parts-in-Node
exclusive_item-returns-in_ok-exclusive_parts-in-Node t c = λ on.
    subst (λ old. ItemApart on old (plain_item (Node c.in-Node.kind c.in_ok-exclusive_parts-in-Node.field-0))) (sym (ap plain_item c.in-Node.is ∙ plain_item-Node c.in-Node.kind c.in-Node.parts))
    (subst (λ new. ItemApart on (inner c.in-Node.kind (plain_choices c.in-Node.parts.items)) new) (sym (plain_item-Node c.in-Node.kind c.in_ok-exclusive_parts-in-Node.field-0))
    (node_apart on c.in-Node.kind (plain_choices c.in-Node.parts.items) (plain_choices c.in_ok-exclusive_parts-in-Node.field-0.items) (c.in_ok-exclusive_parts-in-Node.ensures on)))

pub exclusive_parts-exclusive_choice-requires : goal.exclusive_parts-exclusive_choice-requires
exclusive_parts-exclusive_choice-requires t c =
    let gives = c.into_iter-part-iterator.ensures.into_iter_gives in
    let turn = YieldsList-turn (YieldsList-from_vec c.args.parts.items gives.0 (gives.1 ∙ c.args.parts.ok.0)) c.loop-part.yielded c.loop-part.part-iterator c.loop-part.yielded_by c.next.result c.next.new.self c.in-Some.part c.in-Some.is c.next.ensures.steps in
    let within : branches_depth (plain_branches c.in-Some.part.branches.items) ≤ choices_depth (plain_choices c.args.parts.items) =
    subst (λ (part : Choice Item). branches_depth (plain_branches part.branches.items) ≤ choices_depth (plain_choices c.args.parts.items)) (sym turn.1)
    (choice_within c.args.parts.items _ c.in-Some.part turn.0) in
    (omega (arith, within, c.decreases), tt)

pub exclusive_parts-loop-part-preserved : goal.exclusive_parts-loop-part-preserved
exclusive_parts-loop-part-preserved t c = λ on.
    subst (λ items. PartsApart on (plain_choices (c.loop-part.yielded ++ c.in-Some.part ∷ [])) (plain_choices items)) (sym c.in_ok-push.ensures.items)
    (parts_more on c.loop-part.yielded c.loop-part.apart.items c.in-Some.part c.in_ok-part.part (c.in_ok-part.ensures on) (c.loop-part.invariant on))
