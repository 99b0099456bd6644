use Rattle.std.proofs.Common.{refl}
use Rattle.std.proofs.lemmas.Result.{IfOk-weaker}
use Rattle.cond_formula.specs.Features.{has}
use Rattle.cond_formula.specs.Conditions.{condition_of, value}
use Rattle.c_tree.specs.Grammar.{file_item}
use Rattle.c_tree.specs.Trees.{none, node}
use Rattle.tree_derivations.specs.Derivations.{Derivation}
use Rattle.choice_variants.specs.Variants.{before}
use Rattle.cond_units.specs.Seen.{seen_unit}
use Rattle.cond_units.specs.Units.{one_item}
use Rattle.cond_types.proofs.OneItem.{nothing_done, no_item}
use Rattle.cond_types.proofs.items.declare_kind.Goals as goal

pub returns-in_default : goal.returns-in_default
returns-in_default g c = record {
  kept = refl;
  declares =
      IfOk-weaker c.never.result _ _ (λ f off n globals admitted.
      nothing_done (value (has n) (condition_of c.args.when.now)) (one_item globals (node c.args.kind (before (has n) c.args.parts.now none)) (g.B.Behind.rest c.args.behind.now n))
      (Derivation file_item (node c.args.kind (before (has n) c.args.parts.now none))) (seen_unit (has n) c.args.unit.now) (value (has n) (condition_of f)) (off (has n))
      (no_item c.args.kind (before (has n) c.args.parts.now none) c.in_default.not-Function c.in_default.not-Declaration c.in_default.not-StructDefinition c.in_default.not-StructDeclaration)) c.never.ensures;
}
