-- No number stands right behind `int` in a safe row of parts that have none inside.
use Rattle.std.proofs.Common.{◌≡◌, Bool, true, false, not, ◌&&◌, ◌||◌, List, [], ◌∷◌, refl, ◌∙◌, ap, sym, subst, IsTrue}
use Rattle.std.specs.Prelude.{if◌then◌else◌}
use Rattle.std.proofs.lemmas.Bool.{eqb-true, eq-eqb, and_parts, or_left, or_right}
use Rattle.c_text.specs.Token.{PlainToken}
use Rattle.c_tree.specs.declared.kinds.Kind.TheVariants as k
use Rattle.c_tree.specs.declared.terminals.Terminal.{Terminal}
use Rattle.c_tree.specs.declared.terminals.Terminal.TheVariants.{Int, Number, Star}
use Rattle.c_tree.specs.Terminals.{number, terminal, same, is_one_of}
use Rattle.c_tree.specs.Grammar.{Category, Slot, word, perhaps, stars, needed, optional, Next, fine, must_be, wrong, next_part, nothing_is_needed, is_word, is_absent, is_a, are_in_row, are_words, are_words_of}
use Rattle.c_tree.specs.Trees.{PlainTree, PlainTrees, leaf, node, none, more, written, all_written}
use Rattle.tree_pairs.proofs.Declares.{declares, weaker, weakest, implied, behind_word, behind_mark}
use Rattle.tree_pairs.proofs.Safety.{may_begin_with_number, may_end_with_int, safe_row, word_slots, safe_words}

-- wherever the tree may stand, it is as its category says
abbrev pub IsGood : PlainTree → Type 0
IsGood tree =
    (category : Category) → IsTrue (is_a category tree) → (behind : List PlainToken) → declares (may_end_with_int category) behind ≡ false
    → declares (not (may_begin_with_number category)) (written tree behind) ≡ false

abbrev pub AreGood : PlainTrees → Type 0
AreGood none = Unit {0}
AreGood (more first rest) = IsGood first × AreGood rest

-- ---- a part

begins_late : (after n : Bool) → IsTrue (not (after && n)) → IsTrue after → IsTrue (not n)
begins_late true n h e = h
begins_late false n h e = absurd cc

-- where the token before may be `int`, only a part that doesn't begin with a number is safe
pub behind_part :
    (after : Bool) (category : Category) (tree : PlainTree) (behind : List PlainToken) → IsGood tree
    → IsTrue (not (after && may_begin_with_number category)) → IsTrue (is_a category tree) → declares (may_end_with_int category) behind ≡ false
    → declares after (written tree behind) ≡ false
behind_part after category tree behind good safe h d =
    weaker after (not (may_begin_with_number category)) (begins_late after (may_begin_with_number category) safe) (written tree behind)
    (good category h behind d)

absent_written : (tree : PlainTree) (behind : List PlainToken) → IsTrue (is_absent tree) → written tree behind ≡ behind
absent_written (node k.Absent none) behind h = refl
absent_written (node k.Absent (more first rest)) behind h = absurd cc
absent_written (node _ parts) behind h = absurd cc
absent_written (leaf token) behind h = absurd cc

-- ---- rows

abbrev goes_on : Next → PlainTree → PlainTrees → Bool
goes_on next tree rest = elim next as (λ x. Bool) [
  | fine slots ↦ are_in_row slots rest
  | must_be category slots ↦ is_a category tree && are_in_row slots rest
  | wrong ↦ false
]

-- these parts, in whatever safe row
abbrev RowIsGood : PlainTrees → Type 0
RowIsGood parts =
    (slots : List Slot) (after ended : Bool) → IsTrue (safe_row after slots ended) → IsTrue (are_in_row slots parts) → (behind : List PlainToken)
    → declares ended behind ≡ false → declares after (all_written parts behind) ≡ false

no_part :
    (slots : List Slot) (after ended : Bool) → IsTrue (safe_row after slots ended) → IsTrue (nothing_is_needed slots) → (behind : List PlainToken)
    → declares ended behind ≡ false → declares after behind ≡ false
no_part [] after ended safe h behind d = weaker after ended (implied after ended safe) behind d
no_part (perhaps ts ∷ slots) after ended safe h behind d =
    let parts = and_parts (not (after && is_one_of ts Number)) (safe_row (after || is_one_of ts Int) slots ended) safe in
    weaker after (after || is_one_of ts Int) (or_left after (is_one_of ts Int)) behind
    (no_part slots (after || is_one_of ts Int) ended parts.1 h behind d)
no_part (stars ∷ slots) after ended safe h behind d = no_part slots after ended safe h behind d
no_part (word ts ∷ slots) after ended safe h behind d = absurd cc
no_part (needed category ∷ slots) after ended safe h behind d = absurd cc
no_part (optional category ∷ slots) after ended safe h behind d = absurd cc

first_part :
    (tree : PlainTree) (rest : PlainTrees) → IsGood tree → RowIsGood rest
    → (slots : List Slot) (after ended : Bool) → IsTrue (safe_row after slots ended) → IsTrue (goes_on (next_part slots tree) tree rest)
    → (behind : List PlainToken) → declares ended behind ≡ false → declares after (written tree (all_written rest behind)) ≡ false
first_part tree rest good others [] after ended safe h behind d = absurd cc
first_part tree rest good others (word ts ∷ slots) after ended safe h behind d =
    let parts = and_parts (not (after && is_one_of ts Number)) (safe_row (is_one_of ts Int) slots ended) safe in
    where_word parts.0 parts.1 (is_word ts tree) refl h
  where
    where_word :
        IsTrue (not (after && is_one_of ts Number)) → IsTrue (safe_row (is_one_of ts Int) slots ended)
        → (b : Bool) → is_word ts tree ≡ b → IsTrue (goes_on (if b then fine slots else wrong) tree rest)
        → declares after (written tree (all_written rest behind)) ≡ false
    where_word here later true e h =
        behind_word after ts tree (all_written rest behind) here e (others slots (is_one_of ts Int) ended later h behind d)
    where_word here later false e h = absurd cc
first_part tree rest good others (perhaps ts ∷ slots) after ended safe h behind d =
    let parts = and_parts (not (after && is_one_of ts Number)) (safe_row (after || is_one_of ts Int) slots ended) safe in
    where_word parts.0 parts.1
    (λ h. first_part tree rest good others slots (after || is_one_of ts Int) ended parts.1 h behind d) (is_word ts tree) refl h
  where
    where_word :
        IsTrue (not (after && is_one_of ts Number)) → IsTrue (safe_row (after || is_one_of ts Int) slots ended)
        → (IsTrue (goes_on (next_part slots tree) tree rest) → declares (after || is_one_of ts Int) (written tree (all_written rest behind)) ≡ false)
        → (b : Bool) → is_word ts tree ≡ b → IsTrue (goes_on (if b then fine slots else next_part slots tree) tree rest)
        → declares after (written tree (all_written rest behind)) ≡ false
    where_word here later without true e h =
        behind_word after ts tree (all_written rest behind) here e
        (weaker (is_one_of ts Int) (after || is_one_of ts Int) (or_right after (is_one_of ts Int)) (all_written rest behind)
        (others slots (after || is_one_of ts Int) ended later h behind d))
    where_word here later without false e h =
        weaker after (after || is_one_of ts Int) (or_left after (is_one_of ts Int)) (written tree (all_written rest behind)) (without h)
first_part tree rest good others (stars ∷ slots) after ended safe h behind d =
    where_star (λ h. first_part tree rest good others slots after ended safe h behind d) (is_word (Star ∷ []) tree) refl h
  where
    where_star :
        (IsTrue (goes_on (next_part slots tree) tree rest) → declares after (written tree (all_written rest behind)) ≡ false)
        → (b : Bool) → is_word (Star ∷ []) tree ≡ b → IsTrue (goes_on (if b then fine (stars ∷ slots) else next_part slots tree) tree rest)
        → declares after (written tree (all_written rest behind)) ≡ false
    where_star without true e h =
        behind_mark after (Star ∷ []) tree (all_written rest behind) refl refl e
        (weakest after (all_written rest behind) (others (stars ∷ slots) after ended safe h behind d))
    where_star without false e h = without h
first_part tree rest good others (needed category ∷ slots) after ended safe h behind d =
    let parts = and_parts (not (after && may_begin_with_number category)) (safe_row (may_end_with_int category) slots ended) safe in
    let both = and_parts (is_a category tree) (are_in_row slots rest) h in
    behind_part after category tree (all_written rest behind) good parts.0 both.0
    (others slots (may_end_with_int category) ended parts.1 both.1 behind d)
first_part tree rest good others (optional category ∷ slots) after ended safe h behind d =
    let parts = and_parts (not (after && may_begin_with_number category)) (safe_row (after || may_end_with_int category) slots ended) safe in
    where_absent parts.0 parts.1 (is_absent tree) refl h
  where
    where_absent :
        IsTrue (not (after && may_begin_with_number category)) → IsTrue (safe_row (after || may_end_with_int category) slots ended)
        → (b : Bool) → is_absent tree ≡ b → IsTrue (goes_on (if b then fine slots else must_be category slots) tree rest)
        → declares after (written tree (all_written rest behind)) ≡ false
    where_absent here later true e h =
        ap (declares after) (absent_written tree (all_written rest behind) e)
        ∙ weaker after (after || may_end_with_int category) (or_left after (may_end_with_int category)) (all_written rest behind)
        (others slots (after || may_end_with_int category) ended later h behind d)
    where_absent here later false e h =
        let both = and_parts (is_a category tree) (are_in_row slots rest) h in
        behind_part after category tree (all_written rest behind) good here both.0
        (weaker (may_end_with_int category) (after || may_end_with_int category) (or_right after (may_end_with_int category))
        (all_written rest behind) (others slots (after || may_end_with_int category) ended later both.1 behind d))

pub row_is_good : (parts : PlainTrees) → AreGood parts → RowIsGood parts
row_is_good none good slots after ended safe h behind d = no_part slots after ended safe h behind d
row_is_good (more tree rest) good slots after ended safe h behind d =
    first_part tree rest good.0 (row_is_good rest good.1) slots after ended safe h behind d

-- ---- words

same_turned : (a b : Terminal) → IsTrue (same a b) → IsTrue (same b a)
same_turned a b h = eq-eqb (number b) (number a) (sym (eqb-true (number a) (number b) h))

words_in_row : (words : List Terminal) (parts : PlainTrees) → IsTrue (are_words words parts) → IsTrue (are_in_row (word_slots words) parts)
words_in_row [] none h = refl
words_in_row [] (more first rest) h = absurd cc
words_in_row (w ∷ words) none h = absurd cc
words_in_row (w ∷ words) (more (leaf token) rest) h =
    let both = and_parts (same w (terminal token)) (are_words words rest) h in
    let here : is_word (w ∷ []) (leaf token) ≡ true = or_left (same (terminal token) w) false (same_turned w (terminal token) both.0) in
    subst (λ b. IsTrue (goes_on (if b then fine (word_slots words) else wrong) (leaf token) rest)) (sym here) (words_in_row words rest both.1)
words_in_row (w ∷ words) (more (node kind parts) rest) h = absurd cc

pub words_are_good :
    (lists : List (List Terminal)) (parts : PlainTrees) → AreGood parts → (after ended : Bool) → IsTrue (safe_words after lists ended)
    → IsTrue (are_words_of lists parts) → (behind : List PlainToken) → declares ended behind ≡ false
    → declares after (all_written parts behind) ≡ false
words_are_good [] parts good after ended safe h behind d = absurd cc
words_are_good (words ∷ lists) parts good after ended safe h behind d =
    let both = and_parts (safe_row after (word_slots words) ended) (safe_words after lists ended) safe in
    where_these both.0 (λ h. words_are_good lists parts good after ended both.1 h behind d) (are_words words parts) refl h
  where
    where_these :
        IsTrue (safe_row after (word_slots words) ended) → (IsTrue (are_words_of lists parts) → declares after (all_written parts behind) ≡ false)
        → (b : Bool) → are_words words parts ≡ b → IsTrue (b || are_words_of lists parts) → declares after (all_written parts behind) ≡ false
    where_these here others true e h = row_is_good parts good (word_slots words) after ended here (words_in_row words parts e) behind d
    where_these here others false e h = others h
