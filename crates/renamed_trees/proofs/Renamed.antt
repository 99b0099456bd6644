-- Renamed tokens have the renamed tree, and one exactly where the tokens before had one.
use Rattle.std.proofs.Common.{◌≡◌, ◌≤◌, List, map, Option, Some, None, option_map, All, refl, ap, sym, ◌∙◌, subst}
use Rattle.c_text.specs.Token.{PlainToken}
use Rattle.c_tree.specs.Trees.{PlainTree}
use Rattle.c_tree.specs.Heights.{height_of, most_high}
use Rattle.c_tree.specs.Units.{Spells, IsTreeOf}
use Rattle.c_tree.specs.Machine.{read, of_trees}
use Rattle.c_tree.specs.ReadingLaws.{ReadIsSpelt, SpeltIsRead}
use Rattle.renamings.specs.Renamings.{Renaming, renamed_token}
use Rattle.renamed_trees.specs.RenamedTrees.{renamed_tree, OnlyNamesAreRenamed, IsRenamedFrom}
use Rattle.renamed_trees.specs.Laws.{TreesAreRenamed}
use Rattle.renamed_trees.proofs.Terminals.{IsKept, all_kept}
use Rattle.moved_trees.proofs.Machines.{read_changed}
use Rattle.renamed_trees.proofs.Heights.{tree_kept, height_renamed}

-- a unit that spells the tokens before they were renamed
pub record SpelledBefore (r : Renaming) (tokens : List PlainToken) (renamed : PlainTree) : Type 0 where
  pub tree : PlainTree
  pub spells : Spells tokens tree
  pub same : renamed ≡ renamed_tree r tree

module _ (read_is_spelt : ReadIsSpelt) (spelt_is_read : SpeltIsRead) (r : Renaming) (tokens : List PlainToken) (kept : All (IsKept r) tokens) where
  pub spells_renamed : (tree : PlainTree) → Spells tokens tree → Spells (map (renamed_token r) tokens) (renamed_tree r tree)
  spells_renamed tree spells =
      read_is_spelt (map (renamed_token r) tokens) (renamed_tree r tree)
      (read_changed (renamed_token r) tokens kept ∙ ap (option_map (renamed_tree r)) (spelt_is_read tokens tree spells))

  pub spelled_before : (renamed : PlainTree) → Spells (map (renamed_token r) tokens) renamed → SpelledBefore r tokens renamed
  spelled_before renamed spells = by_reading (read of_trees tokens) refl
    where
      whole : option_map (renamed_tree r) (read of_trees tokens) ≡ Some renamed
      whole = sym (read_changed (renamed_token r) tokens kept) ∙ spelt_is_read (map (renamed_token r) tokens) renamed spells

      by_reading : (x : Option PlainTree) → read of_trees tokens ≡ x → SpelledBefore r tokens renamed
      by_reading (Some tree) e =
          let is : Some (renamed_tree r tree) ≡ Some renamed = ap (option_map (renamed_tree r)) (sym e) ∙ whole in
          record { tree = tree; spells = read_is_spelt tokens tree e; same = cc }
      by_reading None e = absurd (let is : None ≡ Some renamed = ap (option_map (renamed_tree r)) (sym e) ∙ whole in cc)

  -- it is as high as before
  pub same_height : (tree : PlainTree) → Spells tokens tree → height_of (renamed_tree r tree) ≡ height_of tree
  same_height tree spells = height_renamed r tree (tree_kept r tree (subst (All (IsKept r)) (sym spells.text) kept))

pub trees_renamed : ReadIsSpelt → SpeltIsRead → TreesAreRenamed
trees_renamed read_is_spelt spelt_is_read = record {
  has_renamed = renamed;
  no_other = λ r tokens tree other names is_tree is_other.
      other_is_renamed r tokens tree other names is_tree (spelled_before read_is_spelt spelt_is_read r tokens (all_kept r tokens names) other is_other.spells);
  had_tree = λ r tokens after names is_tree. before r tokens after names is_tree (spelled_before read_is_spelt spelt_is_read r tokens (all_kept r tokens names) after is_tree.spells);
}
  where
    renamed :
        (r : Renaming) (tokens : List PlainToken) (tree : PlainTree) → OnlyNamesAreRenamed r tokens → IsTreeOf tokens tree
        → IsTreeOf (map (renamed_token r) tokens) (renamed_tree r tree)
    renamed r tokens tree names is_tree = record {
      spells = spells_renamed read_is_spelt spelt_is_read r tokens (all_kept r tokens names) tree is_tree.spells;
      low = subst (λ n. n ≤ most_high) (sym (same_height read_is_spelt spelt_is_read r tokens (all_kept r tokens names) tree is_tree.spells)) is_tree.low;
    }

    other_is_renamed :
        (r : Renaming) (tokens : List PlainToken) (tree other : PlainTree) → OnlyNamesAreRenamed r tokens → IsTreeOf tokens tree
        → SpelledBefore r tokens other → other ≡ renamed_tree r tree
    other_is_renamed r tokens tree other names is_tree b =
        let one = spelt_is_read tokens tree is_tree.spells in
        let two = spelt_is_read tokens b.tree b.spells in
        let same : b.tree ≡ tree = cc in b.same ∙ ap (renamed_tree r) same

    before :
        (r : Renaming) (tokens : List PlainToken) (after : PlainTree) → OnlyNamesAreRenamed r tokens
        → IsTreeOf (map (renamed_token r) tokens) after → SpelledBefore r tokens after → IsRenamedFrom r tokens after
    before r tokens after names is_tree b = record {
      tree = b.tree;
      is_tree = record {
        spells = b.spells;
        low = subst (λ n. n ≤ most_high) (ap height_of b.same ∙ same_height read_is_spelt spelt_is_read r tokens (all_kept r tokens names) b.tree b.spells) is_tree.low;
      };
      same = b.same;
    }
