-- In no tree of the grammar does a number stand right behind `int`.
use Rattle.std.proofs.Common.{◌≡◌, Bool, false, not, ◌&&◌, List, [], ◌∷◌, refl, IsTrue}
use Rattle.std.proofs.lemmas.Bool.{and_parts, not-true}
use Rattle.c_text.specs.Token.{PlainToken}
use Rattle.c_tree.specs.declared.kinds.Kind.TheVariants as k
use Rattle.c_tree.specs.declared.terminals.Terminal.TheVariants as t
use Rattle.c_tree.specs.Grammar.{expression, initialiser, file_item, Shape, in_row, of_words, of_texts, repeated, any_number, separated, separated_or_ended, declaring, shape, belongs, agree, any_part, are_texts, are_each}
use Rattle.c_tree.specs.Trees.{PlainTree, PlainTrees, leaf, node, none, more, all_written}
use Rattle.c_tree.proofs.ExpressionsRead.{shaped}
use Rattle.tree_pairs.specs.Pairs.{UnitsDeclareNoNumber}
use Rattle.tree_pairs.proofs.Declares.{declares, declares_none, weakest, behind_token}
use Rattle.tree_pairs.proofs.Safety.{may_begin_with_number, may_end_with_int, safe_shape, shapes_are_safe}
use Rattle.tree_pairs.proofs.Rows.{IsGood, AreGood, row_is_good, words_are_good}
use Rattle.tree_pairs.proofs.Lists.{texts_are_good, each_is_good, some_are_good, separated_are_good, ended_are_good}
use Rattle.tree_pairs.proofs.Declarators.{declared_are_good}

node_is_good :
    (s : Shape) (parts : PlainTrees) → AreGood parts → (after ended : Bool) → IsTrue (safe_shape after s ended) → IsTrue (shaped s parts)
    → (behind : List PlainToken) → declares ended behind ≡ false → declares after (all_written parts behind) ≡ false
node_is_good (in_row slots) parts good after ended safe h behind d = row_is_good parts good slots after ended safe h behind d
node_is_good (of_words lists) parts good after ended safe h behind d = words_are_good lists parts good after ended safe h behind d
node_is_good of_texts parts good after ended safe h behind d =
    let both = and_parts (are_texts parts) (any_part parts) h in
    texts_are_good parts both.0 both.1 after behind (weakest ended behind d)
node_is_good (repeated each) parts good after ended safe h behind d =
    let both = and_parts (are_each each parts) (any_part parts) h in
    some_are_good each parts good after safe both.0 both.1 behind (weakest ended behind d)
node_is_good (any_number each) parts good after ended safe h behind d =
    let both = and_parts (not after) (not (may_end_with_int each)) safe in
    rw (not-true after both.0) (each_is_good each (not-true (may_end_with_int each) both.1) parts good h behind (weakest ended behind d))
node_is_good (separated each) parts good after ended safe h behind d = separated_are_good each parts good after ended safe h behind d
node_is_good (separated_or_ended each) parts good after ended safe h behind d = ended_are_good each parts good after ended safe h behind d
node_is_good (declaring role) parts good after ended safe h behind d = declared_are_good role parts good h after behind (weakest ended behind d)

token_is_good : (token : PlainToken) → IsGood (leaf token)
token_is_good token (expression wanted) h behind d = behind_token false (t.Name ∷ t.Number ∷ t.Character ∷ []) token behind refl h d
token_is_good token initialiser h behind d = behind_token false (t.Name ∷ t.Number ∷ t.Character ∷ []) token behind refl h d
token_is_good token _ h behind d = absurd cc

mutual
  tree_is_good : (tree : PlainTree) → IsGood tree
  tree_is_good (leaf token) = token_is_good token
  tree_is_good (node kind parts) = λ category h behind d.
      let outer = and_parts (belongs category kind && agree kind parts) (shaped (shape category kind) parts) h in
      let inner = and_parts (belongs category kind) (agree kind parts) outer.0 in
      node_is_good (shape category kind) parts (trees_are_good parts) (not (may_begin_with_number category)) (may_end_with_int category)
      (shapes_are_safe category kind inner.0) outer.1 behind d

  trees_are_good : (parts : PlainTrees) → AreGood parts
  trees_are_good none = tt
  trees_are_good (more first rest) = (tree_is_good first, trees_are_good rest)

pub units_declare_no_number_lem : UnitsDeclareNoNumber
units_declare_no_number_lem (leaf token) h = absurd cc
units_declare_no_number_lem (node k.Unit parts) h =
    declares_none (all_written parts []) (each_is_good file_item refl parts (trees_are_good parts) h [] refl)
units_declare_no_number_lem (node _ parts) h = absurd cc
