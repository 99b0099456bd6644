use Rattle.std.proofs.Common.{◌≡◌, ℕ, Bool, IsTrue, List, [], ◌∷◌, map, drop}
use Rattle.cond_formula.specs.Features.{has}
use Rattle.cond_formula.specs.Conditions.{condition_of, value}
use Rattle.conditional.specs.Entries.{seen}
use Rattle.c_tree.specs.declared.kinds.Kind.TheVariants as k
use Rattle.c_tree.specs.Grammar.{Role}
use Rattle.choice_trees.specs.ChoiceTrees.{plain_choices, parts_at}
use Rattle.conditional_steps.proofs.Alternatives.{Alternates}
use Rattle.tree_derivations.specs.Derivations.{Declared}
use Rattle.core_meaning.specs.UnitNames as meaning
use Rattle.cond_units.specs.Seen.{seen_unit}
use Rattle.cond_units.specs.Declaring.{Declares}
use Rattle.cond_units.specs.Where.{Stays}
use Rattle.cond_units.specs.Names.{all_names, said_at, said}
use Rattle.cond_units.proofs.storages.name_with_each.Given as goal

abbrev pub invariant-loop-one : goal.invariant-loop-one
invariant-loop-one g l = record {
  kept : g.O.Oracle.admits l.oracle ≡ g.O.Oracle.admits l.fn.oracle;
  so_far : (n : List Bool) (globals : ℕ) (role : Role) (storage : meaning.Storage) → IsTrue (value (has n) (g.O.Oracle.admits l.fn.oracle)) → seen (has n) (said l.storages) ≡ storage ∷ []
      → Alternates Stays (λ s. Declares (has n) l.base (all_names globals s (g.B.Behind.rest l.surroundings.behind.now n) (parts_at (has n) k.Declarators 0 (plain_choices l.parts))) (Declared role (parts_at (has n) k.Declarators 0 (plain_choices l.parts))))
      storage (seen_unit (has n) l.fn.unit) (value (has n) (condition_of l.when))
      (seen (has n) (map said_at (drop l.one-index l.storages))) (seen_unit (has n) l.unit) (value (has n) (condition_of l.refused));
}
