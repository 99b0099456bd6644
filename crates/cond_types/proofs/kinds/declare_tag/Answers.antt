use Rattle.std.specs.Prelude.{⊤}
use Rattle.std.proofs.lemmas.Result.{IfOk-weaker}
use Rattle.cond_formula.specs.Features.{has}
use Rattle.cond_formula.specs.Conditions.{condition_of, value}
use Rattle.c_tree.specs.declared.kinds.Kind.TheVariants as k
use Rattle.c_tree.specs.Grammar.{file_item}
use Rattle.c_tree.specs.Trees.{none, node}
use Rattle.tree_derivations.specs.Derivations.{Derivation}
use Rattle.choice_trees.specs.ChoiceTrees.{plain_item, item_at}
use Rattle.choice_variants.specs.Variants.{before}
use Rattle.cond_units.specs.Seen.{seen_unit}
use Rattle.cond_units.specs.Items.{words_alone}
use Rattle.cond_units.specs.Units.{one_item}
use Rattle.cond_types.proofs.OneItem.{nothing_done, as_judged, no_tag, tag_leads}
use Rattle.cond_types.proofs.kinds.declare_tag.Goals as goal

pub returns-in_default-clause-declares : goal.returns-in_default-clause-declares
returns-in_default-clause-declares g c =
    IfOk-weaker c.never.result _ _ (λ f off n globals rest admitted.
    nothing_done (value (has n) (condition_of c.args.when.now)) (one_item globals (node k.StructDeclaration (before (has n) c.args.parts.now none)) rest) (Derivation file_item (node k.StructDeclaration (before (has n) c.args.parts.now none)))
    (seen_unit (has n) c.args.unit.now) (value (has n) (condition_of f)) (off (has n)) (no_tag (before (has n) c.args.parts.now none) (c.in_default.ensures (has n)))) c.never.ensures

pub returns-clause-declares : goal.returns-clause-declares
returns-clause-declares g c = λ n globals rest admitted.
    as_judged (value (has n) (condition_of c.args.when.now)) (one_item globals (node k.StructDeclaration (before (has n) c.args.parts.now none)) rest) (words_alone (item_at (has n) (plain_item c.in-Some.words.now)))
    (Derivation file_item (node k.StructDeclaration (before (has n) c.args.parts.now none))) ⊤ (seen_unit (has n) c.args.unit.now) (seen_unit (has n) c.declare_alone.new.unit) (value (has n) (condition_of c.in_ok-refused.refused))
    (tag_leads (before (has n) c.args.parts.now none) (item_at (has n) (plain_item c.in-Some.words.now)) (c.in-Some.ensures (has n)) globals rest)
    (c.in_ok-refused.ensures.declares n admitted)
