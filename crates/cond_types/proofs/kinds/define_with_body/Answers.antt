use Rattle.std.proofs.lemmas.Result.{IfOk-weaker}
use Rattle.cond_formula.specs.Features.{has}
use Rattle.cond_formula.specs.Conditions.{condition_of, value}
use Rattle.c_tree.specs.declared.kinds.Kind.TheVariants as k
use Rattle.c_tree.specs.Grammar.{file_item}
use Rattle.c_tree.specs.Trees.{none, node}
use Rattle.tree_derivations.specs.Derivations.{Derivation}
use Rattle.choice_trees.specs.ChoiceTrees.{plain_item, plain_choices, item_at, parts_at}
use Rattle.choice_variants.specs.Variants.{before}
use Rattle.cond_units.specs.Seen.{seen_unit}
use Rattle.cond_units.specs.Units.{one_item}
use Rattle.cond_types.specs.Functions.{listed_definition, IsListedDefinition}
use Rattle.cond_types.proofs.OneItem.{nothing_done, as_judged, no_function_words, no_function_list, no_body, definition_leads}
use Rattle.cond_types.proofs.kinds.define_with_body.Goals as goal

pub returns-in_default-clause-declares : goal.returns-in_default-clause-declares
returns-in_default-clause-declares g c =
    IfOk-weaker c.never.result _ _ (λ f off n globals rest admitted.
    nothing_done (value (has n) (condition_of c.args.when.now)) (one_item globals (node k.Function (before (has n) c.args.parts.now none)) rest) (Derivation file_item (node k.Function (before (has n) c.args.parts.now none)))
    (seen_unit (has n) c.args.unit.now) (value (has n) (condition_of f)) (off (has n)) (no_function_words (before (has n) c.args.parts.now none) (c.in_default.ensures (has n)))) c.never.ensures

pub returns-in_default-declarators_in-clause-declares : goal.returns-in_default-declarators_in-clause-declares
returns-in_default-declarators_in-clause-declares g c =
    IfOk-weaker c.never-in_default-declarators_in.result _ _ (λ f off n globals rest admitted.
    nothing_done (value (has n) (condition_of c.args.when.now)) (one_item globals (node k.Function (before (has n) c.args.parts.now none)) rest) (Derivation file_item (node k.Function (before (has n) c.args.parts.now none)))
    (seen_unit (has n) c.args.unit.now) (value (has n) (condition_of f)) (off (has n)) (no_function_list (before (has n) c.args.parts.now none) (c.in_default-declarators_in.ensures (has n)))) c.never-in_default-declarators_in.ensures

pub returns-in_default-item_in-clause-declares : goal.returns-in_default-item_in-clause-declares
returns-in_default-item_in-clause-declares g c =
    IfOk-weaker c.never-in_default-item_in.result _ _ (λ f off n globals rest admitted.
    nothing_done (value (has n) (condition_of c.args.when.now)) (one_item globals (node k.Function (before (has n) c.args.parts.now none)) rest) (Derivation file_item (node k.Function (before (has n) c.args.parts.now none)))
    (seen_unit (has n) c.args.unit.now) (value (has n) (condition_of f)) (off (has n)) (no_body (before (has n) c.args.parts.now none) (c.in_default-item_in.ensures (has n)))) c.never-in_default-item_in.ensures

pub returns-clause-declares : goal.returns-clause-declares
returns-clause-declares g c = λ n globals rest admitted.
    let parts = before (has n) c.args.parts.now none in
    let words = item_at (has n) (plain_item c.in-Some.words.now) in
    let list = parts_at (has n) k.Declarators 0 (plain_choices c.in-Some-declarators_in.list.now) in
    let body = item_at (has n) (plain_item c.in-Some-item_in.body.now) in
    as_judged (value (has n) (condition_of c.args.when.now)) (one_item globals (node k.Function parts) rest) (listed_definition words body list) (Derivation file_item (node k.Function parts)) (IsListedDefinition body list)
    (seen_unit (has n) c.args.unit.now) (seen_unit (has n) c.define_listed.new.unit) (value (has n) (condition_of c.in_ok-refused.refused))
    (definition_leads parts words body list (c.in-Some.ensures (has n)) (c.in-Some-declarators_in.ensures (has n)) (c.in-Some-item_in.ensures (has n)) globals rest) (c.in_ok-refused.ensures.declares n admitted)
