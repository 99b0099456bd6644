use Rattle.std.proofs.Common.{◌≡◌, IsTrue, List, [], ◌∷◌, map, drop, Bool}
use Rattle.cond_formula.specs.Features.{has}
use Rattle.cond_formula.specs.Conditions.{condition_of, value}
use Rattle.conditional.specs.Entries.{seen}
use Rattle.c_tree.specs.Grammar.{block}
use Rattle.tree_derivations.specs.Derivations.{Derivation}
use Rattle.choice_trees.specs.ChoiceTrees.{plain_item, item_at}
use Rattle.conditional_steps.proofs.Alternatives.{Alternates}
use Rattle.core_meaning.specs.UnitNames as meaning
use Rattle.cond_units.specs.Seen.{seen_unit}
use Rattle.cond_units.specs.Declaring.{Declares}
use Rattle.cond_units.specs.Functions.{IsFunctionDeclarator, judged_declarator}
use Rattle.cond_units.specs.Where.{Stays}
use Rattle.cond_units.specs.Names.{said_at, said}
use Rattle.cond_types.specs.Definitions.{definition_of_head}
use Rattle.cond_types.proofs.definitions.define_with_each.Given as goal

abbrev pub invariant-loop-one : goal.invariant-loop-one
invariant-loop-one g l = record {
  kept : g.O.Oracle.admits l.oracle ≡ g.O.Oracle.admits l.fn.oracle;
  so_far : (n : List Bool) (storage : meaning.Storage) → IsTrue (value (has n) (g.O.Oracle.admits l.fn.oracle)) → seen (has n) (said l.storages) ≡ storage ∷ []
      → Alternates Stays (λ s. Declares (has n) l.base (judged_declarator (definition_of_head s (item_at (has n) (plain_item l.body))) (item_at (has n) (plain_item l.declarator))) (IsFunctionDeclarator (item_at (has n) (plain_item l.declarator)) × Derivation block (item_at (has n) (plain_item l.body))))
      storage (seen_unit (has n) l.fn.unit) (value (has n) (condition_of l.when))
      (seen (has n) (map said_at (drop l.one-index l.storages))) (seen_unit (has n) l.unit) (value (has n) (condition_of l.refused));
}
