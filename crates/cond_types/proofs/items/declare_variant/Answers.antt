use Rattle.std.proofs.Common.{Bool, ◌&&◌, subst}
use Rattle.cond_formula.specs.Features.{has}
use Rattle.cond_formula.specs.Conditions.{condition_of, value}
use Rattle.c_tree.specs.Grammar.{file_item}
use Rattle.c_tree.specs.Trees.{none, node}
use Rattle.tree_derivations.specs.Derivations.{Derivation}
use Rattle.choice_variants.specs.Variants.{before}
use Rattle.cond_units.specs.Seen.{seen_unit}
use Rattle.cond_units.specs.Where.{Where}
use Rattle.cond_units.specs.Items.{DeclaresItem}
use Rattle.cond_units.specs.Units.{one_item}
use Rattle.cond_types.proofs.items.declare_variant.Goals as goal

pub returns-clause-declares : goal.returns-clause-declares
returns-clause-declares g c = λ n globals admitted.
    subst (λ parts. Where (value (has n) (condition_of c.args.when.now) && value (has n) (condition_of c.args.variant.now.when))
    (DeclaresItem (one_item globals (node c.args.kind (before (has n) parts none)) (g.B.Behind.rest c.args.behind.now n)) (Derivation file_item (node c.args.kind (before (has n) parts none))))
    (seen_unit (has n) c.args.unit.now) (seen_unit (has n) c.declare_kind.new.unit) (value (has n) (condition_of c.in_ok-refused.refused))) c.as_slice-parts.ensures.value
    (subst (λ (b : Bool). Where b
    (DeclaresItem (one_item globals (node c.args.kind (before (has n) c.as_slice-parts.result.now none)) (g.B.Behind.rest c.args.behind.now n)) (Derivation file_item (node c.args.kind (before (has n) c.as_slice-parts.result.now none))))
    (seen_unit (has n) c.args.unit.now) (seen_unit (has n) c.declare_kind.new.unit) (value (has n) (condition_of c.in_ok-refused.refused)))
    (c.in_ok-here.ensures (has n)) (c.in_ok-refused.ensures.declares n globals admitted))
