use Rattle.std.proofs.Common.{◌≡◌, Bool, IsTrue, List, map, drop}
use Rattle.cond_formula.specs.Features.{has}
use Rattle.cond_formula.specs.Conditions.{condition_of, value}
use Rattle.conditional.specs.Entries.{seen}
use Rattle.c_tree.specs.Trees.{PlainTrees}
use Rattle.declarator_lists.specs.Lists.{declared_in, trees_of}
use Rattle.declarator_lists.specs.Entries.{declarator_at, listed_at}
use Rattle.declaration_readings.specs.Laws.{LocalsAreRead}
use Rattle.member_uses.specs.Laws.{LocalsUseInitialisers}
use Rattle.type_tables.specs.Blocks.{OnlyLocals}
use Rattle.cond_member_uses.specs.Noted.{noted_at}
use Rattle.cond_member_uses.proofs.Listing.{ListSoFar}
use Rattle.cond_member_uses.proofs.declarators.note_each.Given as goal

abbrev pub invariant-loop-listed : goal.invariant-loop-listed
invariant-loop-listed g l = record {
  kept : g.O.Oracle.admits l.oracle ≡ g.O.Oracle.admits l.fn.oracle;
  outside : OnlyLocals l.fn.tables l.tables;
  so_far : (law : LocalsUseInitialisers) (read : LocalsAreRead) (n : List Bool) (list : PlainTrees) → IsTrue (value (has n) (g.O.Oracle.admits l.fn.oracle)) → seen (has n) (listed_at (has n) l.all) ≡ declared_in (trees_of list)
      → ListSoFar law read (has n) l.base list (value (has n) (condition_of l.when)) (noted_at (has n) l.fn.tables l.fn.log)
      (seen (has n) (map (declarator_at (has n)) (drop l.listed-index l.all))) (noted_at (has n) l.tables l.log);
}
