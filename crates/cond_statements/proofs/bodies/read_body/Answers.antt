use Rattle.std.proofs.Common.{sym, ap, subst, ◌∙◌}
use Rattle.std.proofs.lemmas.Result.{IfOk-weaker}
use Rattle.cond_formula.specs.Features.{has}
use Rattle.c_tree.specs.Grammar.{block}
use Rattle.c_tree.specs.Trees.{PlainTree, node}
use Rattle.tree_derivations.specs.Derivations.{Derivation}
use Rattle.choice_trees.specs.ChoiceTrees.{plain_item, plain_choices, item_at, parts_at}
use Rattle.choice_trees.specs.ItemLaws.{plain_item-Node}
use Rattle.statement_readings.specs.Walks.{walk_body}
use Rattle.statement_readings.specs.Laws.{starting}
use Rattle.cond_statements.proofs.bodies.read_body.Goals as goal

pub returns-in-Node-clause-refused : goal.returns-in-Node-clause-refused
returns-in-Node-clause-refused g c =
    IfOk-weaker c.read_block.result _ _ (λ f refusing n admitted h ty scope slots follows stands derived.
    let is = ap (λ i. item_at (has n) (plain_item i)) c.in-Node.is ∙ ap (item_at (has n)) (plain_item-Node c.in-Node.kind c.in-Node.parts)
    ∙ ap (λ ps. node c.in-Node.kind (parts_at (has n) c.in-Node.kind 0 (plain_choices ps))) (sym c.deref.ensures.value) in
    refusing n admitted h ty scope slots follows stands (subst (Derivation block) is derived)
    ∙ sym (ap (λ (tree : PlainTree). (walk_body ty tree (starting scope slots)).refused) is)) c.read_block.ensures.refused
