use Rattle.std.proofs.Common.{◌≡◌, Bool, true, false, IsTrue, List, map, drop}
use Rattle.cond_formula.specs.Features.{has}
use Rattle.cond_formula.specs.Conditions.{condition_of, value}
use Rattle.conditional.specs.Entries.{seen}
use Rattle.conditional.specs.Judgements.{fine}
use Rattle.c_types.specs.Types.{PlainType}
use Rattle.c_tree.specs.Trees.{PlainTrees}
use Rattle.c_tree.specs.Grammar.{local}
use Rattle.tree_derivations.specs.Derivations.{Declared}
use Rattle.core_meaning.specs.Entities.{Scope}
use Rattle.operand_types.specs.OperandTypes.{renumbered}
use Rattle.declarator_lists.specs.Lists.{declared_in, trees_of}
use Rattle.declarator_lists.specs.Entries.{declarator_at, listed_at}
use Rattle.declaration_readings.specs.Readings.{goes_through, next_local}
use Rattle.type_tables.specs.Seen.{seen_tables}
use Rattle.type_tables.specs.Follows.{IsThere, FollowsInBlock}
use Rattle.cond_declarators.specs.Types.{ShowsType}
use Rattle.type_tables.specs.Blocks.{OnlyLocals}
use Rattle.cond_locals.proofs.Walking.{WalksTo}
use Rattle.cond_locals.proofs.lists.declare_each.Given as goal

abbrev pub invariant-loop-listed : goal.invariant-loop-listed
invariant-loop-listed g l = record {
  kept : g.O.Oracle.admits l.oracle ≡ g.O.Oracle.admits l.fn.oracle;
  outside : OnlyLocals l.fn.tables l.tables;
  elsewhere : (n : List Bool) → IsTrue (value (has n) (g.O.Oracle.admits l.fn.oracle)) → value (has n) (condition_of l.when) ≡ false
      → (seen_tables (has n) l.tables ≡ seen_tables (has n) l.fn.tables) × (value (has n) (condition_of l.refused) ≡ false);
  so_far : (n : List Bool) (list : PlainTrees) → IsTrue (value (has n) (g.O.Oracle.admits l.fn.oracle)) → seen (has n) (listed_at (has n) l.all) ≡ declared_in (trees_of list)
      → value (has n) (condition_of l.when) ≡ true → (scope : Scope) (slots : List PlainType) (ty : PlainType) (follows : FollowsInBlock (seen_tables (has n) l.fn.tables) scope)
      (there : IsThere scope.structs ty) (shown : ShowsType (has n) (fine (renumbered follows.follows.by ty)) l.base) → Declared local list
      → WalksTo follows.follows.by scope.structs (has n) l.base ty there shown
      (goes_through (next_local ty) (record { state = record { scope = scope; slots = slots }; refused = false }) list)
      (seen (has n) (map (declarator_at (has n)) (drop l.listed-index l.all))) (seen_tables (has n) l.tables) (value (has n) (condition_of l.refused));
}
