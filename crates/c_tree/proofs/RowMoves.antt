-- Steps in a node with a fixed list of parts.
use Rattle.std.proofs.Common.{◌≡◌, suc, ◌+◌, Bool, true, false, not, ◌&&◌, ◌||◌, List, [], ◌∷◌, ◌++◌, length, refl, ap, ◌∙◌, sym, subst, arith, append-nil, append_assoc, length-append}
use Rattle.std.proofs.lemmas.Bool.{and_parts, and_from, not-true}
use Rattle.std.proofs.Math.Bool.{or-true}
use Rattle.std.specs.Prelude.{IsTrue, if◌then◌else◌}
use Rattle.c_text.specs.Token.{PlainToken}
use Rattle.c_tree.specs.declared.kinds.Kind.{Kind}
use Rattle.c_tree.specs.declared.terminals.Terminal.{Terminal}
use Rattle.c_tree.specs.declared.terminals.Terminal.TheVariants as t
use Rattle.c_tree.specs.Terminals.{terminal, is_one_of}
use Rattle.c_tree.specs.Trees.{PlainTree, PlainTrees, leaf, node, more, absent, trees}
use Rattle.c_tree.specs.Grammar.{Category, else_part, Slot, word, perhaps, stars, needed, optional, fine, wrong, is_absent, is_a, are_in_row, nearest_if, last_takes_else}
use Rattle.c_tree.specs.Places.{Place, back, Beginning, no_beginning, begins, Move, shifts, fails, or_fails, or_skips, row_move, begins_part}
use Rattle.c_tree.proofs.Fits.{Aim, plain, Yields, Closed, Awaits, Begins, Fits, InRow, Counts, Leaves, Finishes, Moves, is_tidy, is_if, is_readable}
use Rattle.c_tree.proofs.Rows.{leaf_first, optional_first, last_takes_else-append, open_end}
use Rattle.c_tree.proofs.Parts.{begins_part_good}

-- ---- moves that depend on what begins

pub enters_or_fails :
    (coming : Terminal) (token : PlainToken) (place behind : Place) (inner aim : Aim) (parts : List PlainTree) (beginning : Beginning)
    → Awaits behind parts inner aim → Begins token beginning inner → Moves coming token place aim parts (or_fails behind beginning)
enters_or_fails coming token place behind inner aim parts no_beginning a b = tt
enters_or_fails coming token place behind inner aim parts (begins places skipped within) a b =
    record { inner = inner; comes_back = a; more = b }

pub enters_or_skips :
    (coming : Terminal) (token : PlainToken) (place behind : Place) (inner aim : Aim) (parts : List PlainTree) (beginning : Beginning) (other : Move)
    → Awaits behind parts inner aim → Begins token beginning inner → Moves coming token place aim (parts ++ absent ∷ []) other
    → Moves coming token place aim parts (or_skips behind beginning other)
enters_or_skips coming token place behind inner aim parts no_beginning other a b m = m
enters_or_skips coming token place behind inner aim parts (begins places skipped within) other a b m =
    record { inner = inner; comes_back = a; more = b }

-- ---- the last part, and how many there are

leaves-last : (coming : Terminal) (slots : List Slot) (parts : List PlainTree) (tree : PlainTree) → Closed coming tree → Leaves coming slots (parts ++ tree ∷ [])
leaves-last coming [] parts tree c = λ e. last_takes_else-append parts tree ∙ c e
leaves-last coming (optional category ∷ []) parts tree c = λ e. last_takes_else-append parts tree ∙ c e
leaves-last coming (optional category ∷ slot ∷ slots) parts tree c = tt
leaves-last coming (word terminals ∷ slots) parts tree c = tt
leaves-last coming (perhaps terminals ∷ slots) parts tree c = tt
leaves-last coming (stars ∷ slots) parts tree c = tt
leaves-last coming (needed category ∷ slots) parts tree c = tt

pub counts-last :
    (kind : Kind) (slot : Slot) (slots : List Slot) (parts : List PlainTree) (tree : PlainTree)
    → (slots ≡ [] → is_if kind ≡ false) → (IsTrue (is_if kind) → Counts (slot ∷ slots) parts)
    → IsTrue (is_if kind) → Counts slots (parts ++ tree ∷ [])
counts-last kind slot [] parts tree last c i = let f = last refl in absurd cc
counts-last kind slot (other ∷ slots) parts tree last c i =
    let before : length parts + suc (suc (length slots)) ≡ 6 = c i in
    let more : length (parts ++ tree ∷ []) ≡ length parts + 1 = length-append parts (tree ∷ []) in
    let sum : length (parts ++ tree ∷ []) + suc (length slots) ≡ 6 = omega arith in sum

pub tidy-word : (kind : Kind) (terminals : List Terminal) (slots : List Slot) → IsTrue (is_tidy kind (word terminals ∷ slots)) → IsTrue (is_tidy kind slots)
tidy-word kind terminals [] h = refl
tidy-word kind terminals (slot ∷ slots) h = h

pub tidy-needed :
    (kind : Kind) (category : Category) (slots : List Slot) → IsTrue (is_tidy kind (needed category ∷ slots))
    → IsTrue (is_readable category) × IsTrue (is_tidy kind slots)
tidy-needed kind category [] h = let both = and_parts (not (is_if kind)) (is_readable category) h in (both.1, refl)
tidy-needed kind category (slot ∷ slots) h = and_parts (is_readable category) (is_tidy kind (slot ∷ slots)) h

pub word_last : (kind : Kind) (terminals : List Terminal) (slots : List Slot) → IsTrue (is_tidy kind (word terminals ∷ slots)) → slots ≡ [] → is_if kind ≡ false
word_last kind terminals [] h e = not-true (is_if kind) h
word_last kind terminals (slot ∷ slots) h e = absurd cc

pub needed_last : (kind : Kind) (category : Category) (slots : List Slot) → IsTrue (is_tidy kind (needed category ∷ slots)) → slots ≡ [] → is_if kind ≡ false
needed_last kind category [] h e = not-true (is_if kind) (and_parts (not (is_if kind)) (is_readable category) h).0
needed_last kind category (slot ∷ slots) h e = absurd cc

pub tidy-optional :
    (kind : Kind) (category : Category) (terminals : List Terminal) (slots : List Slot)
    → is_tidy kind (optional category ∷ word terminals ∷ slots) ≡ (is_readable category && is_tidy kind (word terminals ∷ slots))
tidy-optional kind else_part terminals slots = refl
tidy-optional kind _ terminals slots = refl

-- an `if` without its last part
nearest_if-last :
    (parts : List PlainTree) (tree : PlainTree) → length parts ≡ 5
    → nearest_if (trees (parts ++ tree ∷ [])) ≡ (is_absent tree || not (last_takes_else (trees parts)))
nearest_if-last [] tree e = absurd (omega arith)
nearest_if-last (a ∷ []) tree e = absurd (omega arith)
nearest_if-last (a ∷ b ∷ []) tree e = absurd (omega arith)
nearest_if-last (a ∷ b ∷ c ∷ []) tree e = absurd (omega arith)
nearest_if-last (a ∷ b ∷ c ∷ d ∷ []) tree e = absurd (omega arith)
nearest_if-last (a ∷ b ∷ c ∷ d ∷ f ∷ []) tree e = refl
nearest_if-last (a ∷ b ∷ c ∷ d ∷ f ∷ g ∷ rest) tree e = absurd (omega arith)

-- ---- the steps

module _ (kind : Kind) (at : List Slot → Place)
    (fits : (coming : Terminal) (slots : List Slot) (aim : Aim) (parts : List PlainTree) → InRow coming kind at slots (Yields aim) parts
    → Fits coming (at slots) (Yields aim) parts)
    (stays : (slots : List Slot) (ended : Place) → back (at slots) ended ≡ at slots) where
  -- with one more part
  pub one_more :
      (coming : Terminal) (slot : Slot) (slots : List Slot) (aim : Aim) (parts : List PlainTree) (tree : PlainTree) (now : Terminal)
      → InRow now kind at (slot ∷ slots) (Yields aim) parts → IsTrue (is_tidy kind slots)
      → (slots ≡ [] → is_if kind ≡ false) → Closed coming tree
      → ((rest : PlainTrees) → IsTrue (are_in_row slots rest) → IsTrue (are_in_row (slot ∷ slots) (more tree rest)))
      → InRow coming kind at slots (Yields aim) (parts ++ tree ∷ [])
  one_more coming slot slots aim parts tree now r tidy last c joins =
      record {
        tidy = tidy;
        solid = r.solid;
        completes = λ left further h near.
            let same : (parts ++ tree ∷ []) ++ further ≡ parts ++ tree ∷ further = append_assoc parts (tree ∷ []) further in
            subst (λ (l : List PlainTree). Yields aim (at left) (node kind (trees l))) (sym same)
            (r.completes left (tree ∷ further) (joins (trees further) h)
            (λ i. subst (λ (l : List PlainTree). IsTrue (nearest_if (trees l))) same (near i)));
        counts = counts-last kind slot slots parts tree last r.counts;
        leaves = leaves-last coming slots parts tree c;
      }

  comes_back :
      (slot : Slot) (slots : List Slot) (category : Category) (aim : Aim) (parts : List PlainTree) (now : Terminal)
      → InRow now kind at (slot ∷ slots) (Yields aim) parts → IsTrue (is_tidy kind slots)
      → (slots ≡ [] → is_if kind ≡ false)
      → ((tree : PlainTree) (rest : PlainTrees) → IsTrue (is_a category tree) → IsTrue (are_in_row slots rest)
      → IsTrue (are_in_row (slot ∷ slots) (more tree rest)))
      → Awaits (at slots) parts (plain category) aim
  comes_back slot slots category aim parts now r tidy last joins coming ended tree y c =
      subst (λ (p : Place). Fits coming p (Yields aim) (parts ++ tree ∷ [])) (sym (stays slots ended))
      (fits coming slots aim (parts ++ tree ∷ [])
      (one_more coming slot slots aim parts tree now r tidy last c (λ rest h. joins tree rest y h)))

  word_moves :
      (place : Place) (terminals : List Terminal) (slots : List Slot) (coming : Terminal) (token : PlainToken) → terminal token ≡ coming → (aim : Aim)
      (parts : List PlainTree) → InRow coming kind at (word terminals ∷ slots) (Yields aim) parts
      → Moves coming token place aim parts (row_move kind at (word terminals ∷ slots) coming)
  word_moves place terminals slots coming token e aim parts r = where_it_fits (is_one_of terminals coming) refl
    where
      where_it_fits : (b : Bool) → is_one_of terminals coming ≡ b → Moves coming token place aim parts (if b then shifts (at slots) else fails)
      where_it_fits true h = λ after.
          fits after slots aim (parts ++ leaf token ∷ [])
          (one_more after (word terminals) slots aim parts (leaf token) coming r (tidy-word kind terminals slots r.tidy)
          (word_last kind terminals slots r.tidy) (λ x. refl)
          (λ rest a. leaf_first (word terminals ∷ slots) slots token coming rest e (ap (λ x. if x then fine slots else wrong) h) a))
      where_it_fits false h = tt

  -- where an `else` may follow
  pub finish_without :
      (slots : List Slot) (coming : Terminal) (aim : Aim) (parts : List PlainTree)
      → (coming ≡ t.Else → ⊥) → IsTrue (is_if kind)
      → InRow coming kind at (optional else_part ∷ []) (Yields aim) parts
      → Finishes coming (at slots) aim (node kind (trees (parts ++ absent ∷ [])))
  finish_without slots coming aim parts other i r =
      let five : length parts + 1 ≡ 6 = r.counts i in
      let near : nearest_if (trees (parts ++ absent ∷ [])) ≡ true = nearest_if-last parts absent (omega arith) in
      record { yields = r.completes slots (absent ∷ []) refl (λ i. near); closed = λ e. absurd (other e) }

  else_comes :
      (coming : Terminal) (aim : Aim) (parts : List PlainTree) → coming ≡ t.Else → IsTrue (is_if kind)
      → InRow coming kind at (optional else_part ∷ []) (Yields aim) parts → Awaits (at []) parts (plain else_part) aim
  else_comes coming aim parts is_else i r after ended tree y c =
      let five : length parts + 1 ≡ 6 = r.counts i in
      let own : last_takes_else (trees parts) ≡ false = r.leaves is_else in
      let near : nearest_if (trees (parts ++ tree ∷ [])) ≡ true =
      nearest_if-last parts tree (omega arith) ∙ ap (λ x. is_absent tree || not x) own ∙ or-true (is_absent tree) in
      subst (λ (p : Place). Fits after p (Yields aim) (parts ++ tree ∷ [])) (sym (stays [] ended))
      (fits after [] aim (parts ++ tree ∷ [])
      (record {
        tidy = refl;
        solid = r.solid;
        completes = λ left further h near'.
            let same : (parts ++ tree ∷ []) ++ further ≡ parts ++ tree ∷ further = append_assoc parts (tree ∷ []) further in
            subst (λ (l : List PlainTree). Yields aim (at left) (node kind (trees l))) (sym same)
            (r.completes left (tree ∷ further) (optional_first else_part [] tree (trees further) y h)
            (λ i. subst (λ (l : List PlainTree). IsTrue (nearest_if (trees l))) same (near' i)));
        counts = λ i. near;
        leaves = λ x. last_takes_else-append parts tree ∙ c x;
      }))

  else_moves :
      (place_slots : List Slot) (coming : Terminal) (token : PlainToken) → terminal token ≡ coming → (aim : Aim) (parts : List PlainTree) → IsTrue (is_if kind)
      → InRow coming kind at (optional else_part ∷ []) (Yields aim) parts
      → Moves coming token (at place_slots) aim parts (row_move kind at (optional else_part ∷ []) coming)
  else_moves place_slots t.Else token e aim parts i r =
      record {
        inner = plain else_part;
        comes_back = else_comes t.Else aim parts refl i r;
        more = begins_part_good else_part refl token t.Else e;
      }
  else_moves place_slots coming token e aim parts i r = finish_without place_slots coming aim parts (λ x. cc) i r

  pub finish :
      (coming : Terminal) (aim : Aim) (parts : List PlainTree) → InRow coming kind at [] (Yields aim) parts
      → Finishes coming (at []) aim (node kind (trees parts))
  finish coming aim parts r =
      let same : parts ++ [] ≡ parts = append-nil parts in
      record {
        yields =
            subst (λ (l : List PlainTree). Yields aim (at []) (node kind (trees l))) same
            (r.completes [] [] refl (λ i. subst (λ (l : List PlainTree). IsTrue (nearest_if (trees l))) (sym same) (r.counts i)));
        closed = λ e. open_end kind (trees parts) r.solid (r.leaves e);
      }

  -- with a part that is left out
  pub one_absent :
      (category : Category) (terminals : List Terminal) (slots : List Slot) (aim : Aim) (parts : List PlainTree) (coming : Terminal)
      → InRow coming kind at (optional category ∷ word terminals ∷ slots) (Yields aim) parts
      → InRow coming kind at (word terminals ∷ slots) (Yields aim) (parts ++ absent ∷ [])
  one_absent category terminals slots aim parts coming r =
      record {
        tidy = (and_parts (is_readable category) (is_tidy kind (word terminals ∷ slots)) (sym (tidy-optional kind category terminals slots) ∙ r.tidy)).1;
        solid = r.solid;
        completes = λ left further h near.
            let same : (parts ++ absent ∷ []) ++ further ≡ parts ++ absent ∷ further = append_assoc parts (absent ∷ []) further in
            subst (λ (l : List PlainTree). Yields aim (at left) (node kind (trees l))) (sym same)
            (r.completes left (absent ∷ further) h (λ i. subst (λ (l : List PlainTree). IsTrue (nearest_if (trees l))) same (near i)));
        counts = counts-last kind (optional category) (word terminals ∷ slots) parts absent (λ x. absurd cc) r.counts;
        leaves = tt;
      }

  optional_moves :
      (category : Category) (terminals : List Terminal) (slots : List Slot) (coming : Terminal) (token : PlainToken) → terminal token ≡ coming → (aim : Aim)
      (parts : List PlainTree) → InRow coming kind at (optional category ∷ word terminals ∷ slots) (Yields aim) parts
      → Moves coming token (at (optional category ∷ word terminals ∷ slots)) aim parts (row_move kind at (optional category ∷ word terminals ∷ slots) coming)
  optional_moves category terminals slots coming token e aim parts r =
      let tidy = and_parts (is_readable category) (is_tidy kind (word terminals ∷ slots)) (sym (tidy-optional kind category terminals slots) ∙ r.tidy) in
      enters_or_skips coming token (at (optional category ∷ word terminals ∷ slots)) (at (word terminals ∷ slots)) (plain category) aim parts
      (begins_part category coming) (row_move kind at (word terminals ∷ slots) coming)
      (comes_back (optional category) (word terminals ∷ slots) category aim parts coming r tidy.1 (λ x. absurd cc)
      (λ tree rest a h. optional_first category (word terminals ∷ slots) tree rest a h))
      (begins_part_good category tidy.0 token coming e)
      (word_moves (at (optional category ∷ word terminals ∷ slots)) terminals slots coming token e aim (parts ++ absent ∷ [])
      (one_absent category terminals slots aim parts coming r))

  pub row_moves :
      (slots : List Slot) (coming : Terminal) (token : PlainToken) → terminal token ≡ coming → (aim : Aim)
      (parts : List PlainTree) → InRow coming kind at slots (Yields aim) parts
      → Moves coming token (at slots) aim parts (row_move kind at slots coming)
  row_moves [] coming token e aim parts r = finish coming aim parts r
  row_moves (word terminals ∷ slots) coming token e aim parts r = word_moves (at (word terminals ∷ slots)) terminals slots coming token e aim parts r
  row_moves (needed category ∷ slots) coming token e aim parts r =
      let tidy = tidy-needed kind category slots r.tidy in
      enters_or_fails coming token (at (needed category ∷ slots)) (at slots) (plain category) aim parts (begins_part category coming)
      (comes_back (needed category) slots category aim parts coming r tidy.1 (needed_last kind category slots r.tidy)
      (λ tree rest a h. and_from (is_a category tree) (are_in_row slots rest) a h))
      (begins_part_good category tidy.0 token coming e)
  row_moves (optional else_part ∷ []) coming token e aim parts r = else_moves (optional else_part ∷ []) coming token e aim parts r.tidy r
  row_moves (optional category ∷ word terminals ∷ slots) coming token e aim parts r = optional_moves category terminals slots coming token e aim parts r
  row_moves (optional category ∷ slots) coming token e aim parts r = let h = r.tidy in absurd cc
  row_moves (perhaps terminals ∷ slots) coming token e aim parts r = tt
  row_moves (stars ∷ slots) coming token e aim parts r = tt
