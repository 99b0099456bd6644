use Rattle.std.proofs.Common.{sym, ap, ◌∙◌, subst}
use Rattle.cond_formula.specs.Features.{has}
use Rattle.cond_formula.specs.Conditions.{condition_of, value}
use Rattle.c_tree.specs.Trees.{node}
use Rattle.choice_trees.specs.ChoiceTrees.{plain_item, plain_choices, item_at, parts_at}
use Rattle.choice_trees.specs.ItemLaws.{plain_item-Node}
use Rattle.cond_units.specs.Seen.{seen_unit}
use Rattle.cond_units.specs.Declaring.{Declares}
use Rattle.cond_units.specs.Functions.{IsFunctionDeclarator, judged_declarator}
use Rattle.cond_units.specs.Where.{Where}
use Rattle.cond_units.proofs.function_declarators.read_function.Goals as goal

pub returns-in_ok-refused-in-Node-clause-declares : goal.returns-in_ok-refused-in-Node-clause-declares
returns-in_ok-refused-in-Node-clause-declares g c = λ n admitted.
    subst (λ tree. Where (value (has n) (condition_of c.args.when.now))
    (Declares (has n) c.args.base.now (judged_declarator (g.R.HeadReader.judged c.args.reader.now n) tree) (IsFunctionDeclarator tree × g.R.HeadReader.ready c.args.reader.now n))
    (seen_unit (has n) c.args.unit.now) (seen_unit (has n) c.read_node.new.unit) (value (has n) (condition_of c.in_ok-refused-in-Node.refused)))
    (sym (ap (λ i. item_at (has n) (plain_item i)) c.in-Node.is ∙ ap (item_at (has n)) (plain_item-Node c.in-Node.kind c.in-Node.parts)
    ∙ ap (λ list. node c.in-Node.kind (parts_at (has n) c.in-Node.kind 0 (plain_choices list))) (sym c.deref.ensures.value)))
    (c.in_ok-refused-in-Node.ensures.declares n admitted)
