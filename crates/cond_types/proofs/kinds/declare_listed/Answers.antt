use Rattle.std.proofs.lemmas.Result.{IfOk-weaker}
use Rattle.cond_formula.specs.Features.{has}
use Rattle.cond_formula.specs.Conditions.{condition_of, value}
use Rattle.c_tree.specs.declared.kinds.Kind.TheVariants as k
use Rattle.c_tree.specs.Grammar.{file_item, file_first}
use Rattle.c_tree.specs.Trees.{none, node}
use Rattle.tree_derivations.specs.Derivations.{Derivation, Declared}
use Rattle.choice_trees.specs.ChoiceTrees.{plain_item, plain_choices, item_at, parts_at}
use Rattle.choice_variants.specs.Variants.{before}
use Rattle.cond_units.specs.Seen.{seen_unit}
use Rattle.cond_units.specs.Items.{declaration_of}
use Rattle.cond_units.specs.Units.{one_item}
use Rattle.cond_types.proofs.OneItem.{nothing_done, as_judged, no_specifiers, no_declarators, declaration_leads}
use Rattle.cond_types.proofs.kinds.declare_listed.Goals as goal

pub returns-in_default-clause-declares : goal.returns-in_default-clause-declares
returns-in_default-clause-declares g c =
    IfOk-weaker c.never.result _ _ (λ f off n globals admitted.
    nothing_done (value (has n) (condition_of c.args.when.now)) (one_item globals (node k.Declaration (before (has n) c.args.parts.now none)) (g.B.Behind.rest c.args.behind.now n)) (Derivation file_item (node k.Declaration (before (has n) c.args.parts.now none)))
    (seen_unit (has n) c.args.unit.now) (value (has n) (condition_of f)) (off (has n)) (no_specifiers (before (has n) c.args.parts.now none) (c.in_default.ensures (has n)))) c.never.ensures

pub returns-in_default-declarators_in-clause-declares : goal.returns-in_default-declarators_in-clause-declares
returns-in_default-declarators_in-clause-declares g c =
    IfOk-weaker c.never-in_default-declarators_in.result _ _ (λ f off n globals admitted.
    nothing_done (value (has n) (condition_of c.args.when.now)) (one_item globals (node k.Declaration (before (has n) c.args.parts.now none)) (g.B.Behind.rest c.args.behind.now n)) (Derivation file_item (node k.Declaration (before (has n) c.args.parts.now none)))
    (seen_unit (has n) c.args.unit.now) (value (has n) (condition_of f)) (off (has n)) (no_declarators (before (has n) c.args.parts.now none) (c.in_default-declarators_in.ensures (has n)))) c.never-in_default-declarators_in.ensures

pub returns-clause-declares : goal.returns-clause-declares
returns-clause-declares g c = λ n globals admitted.
    let parts = before (has n) c.args.parts.now none in
    let words = item_at (has n) (plain_item c.in-Some.words.now) in
    let list = parts_at (has n) k.Declarators 0 (plain_choices c.in-Some-declarators_in.list.now) in
    let rest = g.B.Behind.rest c.args.behind.now n in
    as_judged (value (has n) (condition_of c.args.when.now)) (one_item globals (node k.Declaration parts) rest) (declaration_of globals words list rest) (Derivation file_item (node k.Declaration parts)) (Declared file_first list)
    (seen_unit (has n) c.args.unit.now) (seen_unit (has n) c.declare.new.unit) (value (has n) (condition_of c.in_ok-refused.refused))
    (declaration_leads parts words list (c.in-Some.ensures (has n)) (c.in-Some-declarators_in.ensures (has n)) globals rest) (c.in_ok-refused.ensures.declares n globals file_first admitted)
