-- No number stands right behind `int` in safe lists of parts that have none inside.
use Rattle.std.proofs.Common.{◌≡◌, Bool, true, false, not, ◌&&◌, ◌||◌, List, [], ◌∷◌, refl, IsTrue}
use Rattle.std.proofs.lemmas.Bool.{and_parts, not-true}
use Rattle.c_text.specs.Token.{PlainToken}
use Rattle.c_tree.specs.declared.terminals.Terminal.TheVariants as t
use Rattle.c_tree.specs.Grammar.{Category, is_word, is_a, any_part, are_texts, are_each, are_separated, are_separated_or_ended}
use Rattle.c_tree.specs.Trees.{PlainTree, PlainTrees, none, more, written, all_written}
use Rattle.tree_pairs.proofs.Declares.{declares, weaker, weakest, implied, behind_mark}
use Rattle.tree_pairs.proofs.Safety.{may_begin_with_number, may_end_with_int, safe_each, safe_list}
use Rattle.tree_pairs.proofs.Rows.{IsGood, AreGood, behind_part}

pub texts_are_good :
    (parts : PlainTrees) → IsTrue (are_texts parts) → IsTrue (any_part parts) → (after : Bool) (behind : List PlainToken)
    → declares false behind ≡ false → declares after (all_written parts behind) ≡ false
texts_are_good none h some after behind d = absurd cc
texts_are_good (more tree none) h some after behind d =
    behind_mark after (t.Text ∷ []) tree behind refl refl (and_parts (is_word (t.Text ∷ []) tree) true h).0 d
texts_are_good (more tree (more second rest)) h some after behind d =
    let both = and_parts (is_word (t.Text ∷ []) tree) (are_texts (more second rest)) h in
    behind_mark after (t.Text ∷ []) tree (all_written (more second rest) behind) refl refl both.0
    (texts_are_good (more second rest) both.1 refl false behind d)

pub each_is_good :
    (each : Category) → may_end_with_int each ≡ false → (parts : PlainTrees) → AreGood parts → IsTrue (are_each each parts)
    → (behind : List PlainToken) → declares false behind ≡ false → declares false (all_written parts behind) ≡ false
each_is_good each closed none good h behind d = d
each_is_good each closed (more tree rest) good h behind d =
    let both = and_parts (is_a each tree) (are_each each rest) h in
    behind_part false each tree (all_written rest behind) good.0 refl both.0 (rw closed (each_is_good each closed rest good.1 both.1 behind d))

pub some_are_good :
    (each : Category) (parts : PlainTrees) → AreGood parts → (after : Bool) → IsTrue (safe_each after each) → IsTrue (are_each each parts)
    → IsTrue (any_part parts) → (behind : List PlainToken) → declares false behind ≡ false → declares after (all_written parts behind) ≡ false
some_are_good each none good after safe h some behind d = absurd cc
some_are_good each (more tree rest) good after safe h some behind d =
    let safely = and_parts (not (after && may_begin_with_number each)) (not (may_end_with_int each)) safe in
    let both = and_parts (is_a each tree) (are_each each rest) h in
    let closed = not-true (may_end_with_int each) safely.1 in
    behind_part after each tree (all_written rest behind) good.0 safely.0 both.0 (rw closed (each_is_good each closed rest good.1 both.1 behind d))

-- ---- parts with commas between them

safe_around :
    (each : Category) (after ended : Bool) → IsTrue (safe_list after each ended)
    → IsTrue (not (after && may_begin_with_number each)) × IsTrue (not (may_end_with_int each) || ended)
safe_around each after ended safe = and_parts (not (after && may_begin_with_number each)) (not (may_end_with_int each) || ended) safe

before_end :
    (each : Category) (after ended : Bool) (tree : PlainTree) (behind : List PlainToken) → IsTrue (safe_list after each ended) → IsGood tree
    → IsTrue (is_a each tree) → declares ended behind ≡ false → declares after (written tree behind) ≡ false
before_end each after ended tree behind safe good h d =
    behind_part after each tree behind good (safe_around each after ended safe).0 h
    (weaker (may_end_with_int each) ended (implied (may_end_with_int each) ended (safe_around each after ended safe).1) behind d)

before_mark :
    (each : Category) (after ended : Bool) (tree mark : PlainTree) (behind : List PlainToken) → IsTrue (safe_list after each ended) → IsGood tree
    → IsTrue (is_a each tree) → IsTrue (is_word (t.Comma ∷ []) mark) → declares false behind ≡ false
    → declares after (written tree (written mark behind)) ≡ false
before_mark each after ended tree mark behind safe good h m d =
    behind_part after each tree (written mark behind) good (safe_around each after ended safe).0 h
    (behind_mark (may_end_with_int each) (t.Comma ∷ []) mark behind refl refl m d)

pub separated_are_good :
    (each : Category) (parts : PlainTrees) → AreGood parts → (after ended : Bool) → IsTrue (safe_list after each ended)
    → IsTrue (are_separated each parts) → (behind : List PlainToken) → declares ended behind ≡ false
    → declares after (all_written parts behind) ≡ false
separated_are_good each none good after ended safe h behind d = absurd cc
separated_are_good each (more tree none) good after ended safe h behind d = before_end each after ended tree behind safe good.0 h d
separated_are_good each (more tree (more comma rest)) good after ended safe h behind d =
    let outer = and_parts (is_a each tree && is_word (t.Comma ∷ []) comma) (are_separated each rest) h in
    let inner = and_parts (is_a each tree) (is_word (t.Comma ∷ []) comma) outer.0 in
    before_mark each after ended tree comma (all_written rest behind) safe good.0 inner.0 inner.1
    (separated_are_good each rest good.1.1 false ended (safe_around each after ended safe).1 outer.1 behind d)

pub ended_are_good :
    (each : Category) (parts : PlainTrees) → AreGood parts → (after ended : Bool) → IsTrue (safe_list after each ended)
    → IsTrue (are_separated_or_ended each parts) → (behind : List PlainToken) → declares ended behind ≡ false
    → declares after (all_written parts behind) ≡ false
ended_are_good each none good after ended safe h behind d = absurd cc
ended_are_good each (more tree none) good after ended safe h behind d = before_end each after ended tree behind safe good.0 h d
ended_are_good each (more tree (more comma none)) good after ended safe h behind d =
    let both = and_parts (is_a each tree) (is_word (t.Comma ∷ []) comma) h in
    before_mark each after ended tree comma behind safe good.0 both.0 both.1 (weakest ended behind d)
ended_are_good each (more tree (more comma (more next rest))) good after ended safe h behind d =
    let outer = and_parts (is_a each tree && is_word (t.Comma ∷ []) comma) (are_separated_or_ended each (more next rest)) h in
    let inner = and_parts (is_a each tree) (is_word (t.Comma ∷ []) comma) outer.0 in
    before_mark each after ended tree comma (all_written (more next rest) behind) safe good.0 inner.0 inner.1
    (ended_are_good each (more next rest) good.1.1 false ended (safe_around each after ended safe).1 outer.1 behind d)
