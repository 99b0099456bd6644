-- Steps in expressions, words and lists.
use Rattle.std.proofs.Common.{◌≡◌, ℕ, Bool, true, false, not, ◌&&◌, List, [], ◌∷◌, ◌++◌, refl, ap, sym, subst, arith, append-nil, append_assoc}
use Rattle.std.proofs.lemmas.Bool.{and_parts, and_from}
use Rattle.std.specs.Prelude.{nat_le, IsTrue, if◌then◌else◌}
use Rattle.std.specs.List.{list_any}
use Rattle.c_text.specs.Token.{PlainToken}
use Rattle.c_tree.specs.declared.kinds.Kind.{Kind}
use Rattle.c_tree.specs.declared.kinds.Kind.TheVariants as k
use Rattle.c_tree.specs.declared.terminals.Terminal.{Terminal}
use Rattle.c_tree.specs.declared.terminals.Terminal.TheVariants as t
use Rattle.c_tree.specs.Terminals.{terminal, is_one_of}
use Rattle.c_tree.specs.Trees.{PlainTree, PlainTrees, leaf, node, none, more, trees}
use Rattle.c_tree.specs.Grammar.{Category, expression, cast_type, Slot, word, needed, row, level, fine, wrong, is_kind, is_a, is_word, are_texts, are_in_row, are_each, takes_else}
use Rattle.c_tree.specs.Places.{Place, inside, operand, operator, opened, in_texts, in_words, in_list, entered, separated_from, Wording, cast_wording, wordings, goes_on, are_same, may_end_with_comma, Beginning, no_beginning, begins, Move, shifts, enters, takes, passes, finishes, fails, or_fails, or_ends, behind_first, opened_move, words_move, comma_move, begins_words, begins_expression, begins_part, move}
use Rattle.c_tree.proofs.Fits.{Aim, plain, an_operand, Yields, Awaits, Begins, Fits, InRow, Leaves, BehindOperand, BehindOpening, InWords, InList, Entered, SeparatedFrom, Finishes, Moves, is_tidy, is_if, after_entry, after_comma}
use Rattle.c_tree.proofs.Rows.{nat_le_more, leaf_first, weaker, are_words-append, shut_end}
use Rattle.c_tree.proofs.Beginnings.{operand_back, begins_expression_good, begins_cast_type}
use Rattle.c_tree.proofs.Parts.{begins_part_good}
use Rattle.c_tree.proofs.RowMoves.{enters_or_fails}

-- ---- operators

expression_closed : (wanted : ℕ) (tree : PlainTree) → IsTrue (is_a (expression wanted) tree) → takes_else tree ≡ false
expression_closed wanted (leaf token) h = refl
expression_closed wanted (node k.Absent parts) h = absurd cc
expression_closed wanted (node k.If parts) h = absurd cc
expression_closed wanted (node k.Else parts) h = absurd cc
expression_closed wanted (node k.While parts) h = absurd cc
expression_closed wanted (node k.For parts) h = absurd cc
expression_closed wanted (node _ parts) h = refl

module _ (wanted own : ℕ) (coming : Terminal) (token : PlainToken) (e : terminal token ≡ coming) (aim : Aim) (parts : List PlainTree)
    (b : BehindOperand wanted own (Yields aim) parts) where
  operator_passes : Moves coming token (operator wanted own) aim parts passes
  operator_passes =
      record {
        tree = b.tree;
        alone = b.alone;
        yields = b.accepts (operator wanted own) b.tree (weaker wanted own b.tight b.tree b.read);
        closed = λ x. expression_closed own b.tree b.read;
      }

  -- the operand is the left one of an operator
  joins_operand :
      (kind : Kind) (left : ℕ) (terminals : List Terminal) (slots : List Slot)
      → row kind ≡ needed (expression left) ∷ word terminals ∷ slots → is_one_of terminals coming ≡ true → nat_le left own ≡ true
      → (rest : PlainTrees) → IsTrue (are_in_row slots rest) → IsTrue (are_in_row (row kind) (more b.tree (more (leaf token) rest)))
  joins_operand kind left terminals slots same single below rest h =
      let second : IsTrue (are_in_row (word terminals ∷ slots) (more (leaf token) rest)) =
      leaf_first (word terminals ∷ slots) slots token coming rest e (ap (λ x. if x then fine slots else wrong) single) h in
      subst (λ (l : List Slot). IsTrue (are_in_row l (more b.tree (more (leaf token) rest)))) (sym same)
      (and_from (is_a (expression left) b.tree) (are_in_row (word terminals ∷ slots) (more (leaf token) rest))
      (weaker left own below b.tree b.read) second)

  operator_takes :
      (kind : Kind) (left : ℕ) (terminals : List Terminal) (slots : List Slot)
      → row kind ≡ needed (expression left) ∷ word terminals ∷ slots → is_one_of terminals coming ≡ true
      → IsTrue (is_tidy kind slots) → IsTrue (not (is_kind k.Absent kind)) → is_if kind ≡ false
      → ((after : Terminal) (tree : PlainTree) → Leaves after slots (tree ∷ leaf token ∷ []))
      → ((rest : PlainTrees) → IsTrue (are_in_row (row kind) rest) → IsTrue (is_a (expression (level kind)) (node kind rest)))
      → Moves coming token (operator wanted own) aim parts
      (if nat_le wanted (level kind) && nat_le left own then takes (operand wanted) (inside kind slots) else passes)
  operator_takes kind left terminals slots same single tidy solid no_if leaves belongs = where_it_binds (nat_le wanted (level kind) && nat_le left own) refl
    where
      where_it_binds :
          (x : Bool) → (nat_le wanted (level kind) && nat_le left own) ≡ x
          → Moves coming token (operator wanted own) aim parts (if x then takes (operand wanted) (inside kind slots) else passes)
      where_it_binds false h = operator_passes
      where_it_binds true h =
          let both = and_parts (nat_le wanted (level kind)) (nat_le left own) h in
          record {
            inner = an_operand wanted;
            comes_back = operand_back wanted aim b.accepts;
            more = λ after.
                subst (λ (l : List PlainTree). Fits after (inside kind slots) (Yields (an_operand wanted)) (l ++ leaf token ∷ [])) (sym b.alone)
                (record {
                  tidy = tidy;
                  solid = solid;
                  completes = λ left_over further a near. record {
                    tight = both.0;
                    expression =
                        belongs (more b.tree (more (leaf token) (trees further)))
                        (joins_operand kind left terminals slots same single both.1 (trees further) a);
                  };
                  counts = λ i. absurd cc;
                  leaves = leaves after b.tree;
                });
          }

pub operator_moves :
    (coming : Terminal) (wanted own : ℕ) (token : PlainToken) → terminal token ≡ coming → (aim : Aim) (parts : List PlainTree)
    → BehindOperand wanted own (Yields aim) parts → Moves coming token (operator wanted own) aim parts (move (operator wanted own) coming)
operator_moves t.Assign wanted own token e aim parts b = operator_takes wanted own t.Assign token e aim parts b k.Assignment 14 (t.Assign ∷ t.CompoundAssign ∷ []) (needed (expression 1) ∷ []) refl refl refl refl refl (λ after tree. tt) (λ rest h. h)
operator_moves t.CompoundAssign wanted own token e aim parts b = operator_takes wanted own t.CompoundAssign token e aim parts b k.Assignment 14 (t.Assign ∷ t.CompoundAssign ∷ []) (needed (expression 1) ∷ []) refl refl refl refl refl (λ after tree. tt) (λ rest h. h)
operator_moves t.Question wanted own token e aim parts b = operator_takes wanted own t.Question token e aim parts b k.Conditional 3 (t.Question ∷ []) (behind_first (behind_first (row k.Conditional))) refl refl refl refl refl (λ after tree. tt) (λ rest h. h)
operator_moves t.OrOr wanted own token e aim parts b = operator_takes wanted own t.OrOr token e aim parts b k.LogicalOr 3 (t.OrOr ∷ []) (needed (expression 4) ∷ []) refl refl refl refl refl (λ after tree. tt) (λ rest h. h)
operator_moves t.AndAnd wanted own token e aim parts b = operator_takes wanted own t.AndAnd token e aim parts b k.LogicalAnd 4 (t.AndAnd ∷ []) (needed (expression 5) ∷ []) refl refl refl refl refl (λ after tree. tt) (λ rest h. h)
operator_moves t.Bar wanted own token e aim parts b = operator_takes wanted own t.Bar token e aim parts b k.Or 5 (t.Bar ∷ []) (needed (expression 6) ∷ []) refl refl refl refl refl (λ after tree. tt) (λ rest h. h)
operator_moves t.Caret wanted own token e aim parts b = operator_takes wanted own t.Caret token e aim parts b k.Xor 6 (t.Caret ∷ []) (needed (expression 7) ∷ []) refl refl refl refl refl (λ after tree. tt) (λ rest h. h)
operator_moves t.Ampersand wanted own token e aim parts b = operator_takes wanted own t.Ampersand token e aim parts b k.And 7 (t.Ampersand ∷ []) (needed (expression 8) ∷ []) refl refl refl refl refl (λ after tree. tt) (λ rest h. h)
operator_moves t.Equality wanted own token e aim parts b = operator_takes wanted own t.Equality token e aim parts b k.Equality 8 (t.Equality ∷ []) (needed (expression 9) ∷ []) refl refl refl refl refl (λ after tree. tt) (λ rest h. h)
operator_moves t.Relation wanted own token e aim parts b = operator_takes wanted own t.Relation token e aim parts b k.Relation 9 (t.Relation ∷ []) (needed (expression 10) ∷ []) refl refl refl refl refl (λ after tree. tt) (λ rest h. h)
operator_moves t.Shift wanted own token e aim parts b = operator_takes wanted own t.Shift token e aim parts b k.Shift 10 (t.Shift ∷ []) (needed (expression 11) ∷ []) refl refl refl refl refl (λ after tree. tt) (λ rest h. h)
operator_moves t.Sign wanted own token e aim parts b = operator_takes wanted own t.Sign token e aim parts b k.Sum 11 (t.Sign ∷ []) (needed (expression 12) ∷ []) refl refl refl refl refl (λ after tree. tt) (λ rest h. h)
operator_moves t.Star wanted own token e aim parts b = operator_takes wanted own t.Star token e aim parts b k.Product 12 (t.Star ∷ t.Divide ∷ []) (needed (expression 13) ∷ []) refl refl refl refl refl (λ after tree. tt) (λ rest h. h)
operator_moves t.Divide wanted own token e aim parts b = operator_takes wanted own t.Divide token e aim parts b k.Product 12 (t.Star ∷ t.Divide ∷ []) (needed (expression 13) ∷ []) refl refl refl refl refl (λ after tree. tt) (λ rest h. h)
operator_moves t.Step wanted own token e aim parts b = operator_takes wanted own t.Step token e aim parts b k.PostfixStep 15 (t.Step ∷ []) [] refl refl refl refl refl (λ after tree x. refl) (λ rest h. h)
operator_moves t.OpenBracket wanted own token e aim parts b = operator_takes wanted own t.OpenBracket token e aim parts b k.Index 15 (t.OpenBracket ∷ []) (behind_first (behind_first (row k.Index))) refl refl refl refl refl (λ after tree. tt) (λ rest h. h)
operator_moves t.OpenParenthesis wanted own token e aim parts b = operator_takes wanted own t.OpenParenthesis token e aim parts b k.Call 15 (t.OpenParenthesis ∷ []) (behind_first (behind_first (row k.Call))) refl refl refl refl refl (λ after tree. tt) (λ rest h. h)
operator_moves t.Select wanted own token e aim parts b = operator_takes wanted own t.Select token e aim parts b k.Selection 15 (t.Select ∷ []) (word (t.Name ∷ []) ∷ []) refl refl refl refl refl (λ after tree. tt) (λ rest h. h)
operator_moves _ wanted own token e aim parts b = operator_passes wanted own _ token e aim parts b

-- ---- behind a `(`

pub parenthesised :
    (wanted : ℕ) (token : PlainToken) (aim : Aim) (parts : List PlainTree) → BehindOpening wanted (Yields aim) parts
    → Awaits (inside k.Parenthesized (word (t.CloseParenthesis ∷ []) ∷ [])) parts (plain (expression 1)) aim
parenthesised wanted token aim parts b coming ended tree y c =
    let slots : List Slot = word (t.CloseParenthesis ∷ []) ∷ [] in
    subst (λ (l : List PlainTree). InRow coming k.Parenthesized (inside k.Parenthesized) slots (Yields aim) (l ++ tree ∷ [])) (sym b.alone)
    (record {
      tidy = refl;
      solid = refl;
      completes = λ left further h near.
          b.accepts (inside k.Parenthesized left) (node k.Parenthesized (more (leaf b.token) (more tree (trees further))))
          (record {
            tight = nat_le_more wanted 14 16 b.readable (omega arith);
            expression =
                leaf_first (row k.Parenthesized) (needed (expression 1) ∷ slots) b.token t.OpenParenthesis (more tree (trees further)) b.opens refl
                (and_from (is_a (expression 1) tree) (are_in_row slots (trees further)) y h);
          });
      counts = λ i. absurd cc;
      leaves = tt;
    })

cast :
    (wanted : ℕ) (token : PlainToken) (aim : Aim) (parts : List PlainTree) → nat_le wanted 13 ≡ true → BehindOpening wanted (Yields aim) parts
    → Awaits (inside k.Cast (word (t.CloseParenthesis ∷ []) ∷ needed (expression 13) ∷ [])) parts (plain cast_type) aim
cast wanted token aim parts tight b coming ended tree y c =
    let slots : List Slot = word (t.CloseParenthesis ∷ []) ∷ needed (expression 13) ∷ [] in
    subst (λ (l : List PlainTree). InRow coming k.Cast (inside k.Cast) slots (Yields aim) (l ++ tree ∷ [])) (sym b.alone)
    (record {
      tidy = refl;
      solid = refl;
      completes = λ left further h near.
          b.accepts (inside k.Cast left) (node k.Cast (more (leaf b.token) (more tree (trees further))))
          (record {
            tight = tight;
            expression =
                leaf_first (row k.Cast) (needed cast_type ∷ slots) b.token t.OpenParenthesis (more tree (trees further)) b.opens refl
                (and_from (is_a cast_type tree) (are_in_row slots (trees further)) y h);
          });
      counts = λ i. absurd cc;
      leaves = tt;
    })

pub opened_moves :
    (wanted : ℕ) (coming : Terminal) (token : PlainToken) → terminal token ≡ coming → (aim : Aim) (parts : List PlainTree)
    → BehindOpening wanted (Yields aim) parts → Moves coming token (opened wanted) aim parts (opened_move wanted coming)
opened_moves wanted coming token e aim parts b = by_beginning (begins_words cast_wording coming) (begins_cast_type token coming e)
  where
    where_it_binds :
        (x : Bool) → nat_le wanted 13 ≡ x → (places : List Place) (skipped : Bool) (within : Place)
        → Begins token (begins places skipped within) (plain cast_type)
        → Moves coming token (opened wanted) aim parts
        (if x then enters (inside k.Cast (word (t.CloseParenthesis ∷ []) ∷ needed (expression 13) ∷ [])) (begins places skipped within) else fails)
    where_it_binds true h places skipped within s = record { inner = plain cast_type; comes_back = cast wanted token aim parts h b; more = s }
    where_it_binds false h places skipped within s = tt

    by_beginning :
        (x : Beginning) → Begins token x (plain cast_type)
        → Moves coming token (opened wanted) aim parts
        (elim x as (λ y. Move) [
          | begins places skipped inner ↦
              if nat_le wanted 13 then enters (inside k.Cast (word (t.CloseParenthesis ∷ []) ∷ needed (expression 13) ∷ [])) (begins places skipped inner)
              else fails
          | no_beginning ↦ or_fails (inside k.Parenthesized (word (t.CloseParenthesis ∷ []) ∷ [])) (begins_expression 1 coming)
        ])
    by_beginning (begins places skipped within) s = where_it_binds (nat_le wanted 13) refl places skipped within s
    by_beginning no_beginning s =
        enters_or_fails coming token (opened wanted) (inside k.Parenthesized (word (t.CloseParenthesis ∷ []) ∷ [])) (plain (expression 1)) aim parts
        (begins_expression 1 coming) (parenthesised wanted token aim parts b)
        (begins_expression_good 1 refl token (plain (expression 1)) (λ ended tree h. h) coming e)

-- ---- texts and words

pub texts_end :
    (coming : Terminal) (token : PlainToken) (aim : Aim) (parts : List PlainTree)
    → Fits coming in_texts (Yields aim) parts → Finishes coming in_texts aim (node k.Texts (trees parts))
texts_end coming token aim parts f =
    record {
      yields = subst (λ (l : List PlainTree). Yields aim in_texts (node k.Texts (trees l))) (append-nil parts) (f [] refl);
      closed = λ x. refl;
    }

pub texts_moves :
    (coming : Terminal) (token : PlainToken) → terminal token ≡ coming → (aim : Aim) (parts : List PlainTree)
    → Fits coming in_texts (Yields aim) parts → Moves coming token in_texts aim parts (move in_texts coming)
texts_moves t.Text token e aim parts f = λ after further h.
    subst (λ (l : List PlainTree). Yields aim in_texts (node k.Texts (trees l))) (sym (append_assoc parts (leaf token ∷ []) further))
    (f (leaf token ∷ further) (and_from (is_word (t.Text ∷ []) (leaf token)) (are_texts (trees further)) (ap (is_one_of (t.Text ∷ [])) e) h))
texts_moves _ token e aim parts f = texts_end _ token aim parts f

pub words_moves :
    (wording : Wording) (words : List Terminal) (coming : Terminal) (token : PlainToken) → terminal token ≡ coming → (aim : Aim) (parts : List PlainTree)
    → InWords wording words (Yields aim) parts → Moves coming token (in_words wording words) aim parts (words_move wording words coming)
words_moves wording words coming token e aim parts r =
    where_it_goes_on (list_any (goes_on (words ++ coming ∷ [])) (wordings wording)) (list_any (are_same words) (wordings wording)) refl
  where
    where_it_goes_on :
        (x y : Bool) → list_any (are_same words) (wordings wording) ≡ y
        → Moves coming token (in_words wording words) aim parts
        (if x then shifts (in_words wording (words ++ coming ∷ [])) else (if y then finishes k.Specifiers else fails))
    where_it_goes_on true y h = λ after. record { are = are_words-append words parts token coming e r.are; accepts = r.accepts }
    where_it_goes_on false true h = record { yields = r.accepts words (trees parts) r.are h; closed = λ x. refl }
    where_it_goes_on false false h = tt

-- ---- lists

list_back :
    (kind : Kind) (category : Category) (aim : Aim) (parts : List PlainTree) → InList kind category (Yields aim) parts
    → Awaits (in_list kind category) parts (plain category) aim
list_back kind category aim parts r coming ended tree y c =
    record {
      readable = r.readable;
      shut = r.shut;
      completes = λ further h.
          subst (λ (l : List PlainTree). Yields aim (in_list kind category) (node kind (trees l))) (sym (append_assoc parts (tree ∷ []) further))
          (r.completes (tree ∷ further) (and_from (is_a category tree) (are_each category (trees further)) y h));
    }

pub list_moves :
    (kind : Kind) (category : Category) (coming : Terminal) (token : PlainToken) → terminal token ≡ coming → (aim : Aim) (parts : List PlainTree)
    → InList kind category (Yields aim) parts → Moves coming token (in_list kind category) aim parts (move (in_list kind category) coming)
list_moves kind category coming token e aim parts r = by_beginning (begins_part category coming) (begins_part_good category r.readable token coming e)
  where
    by_beginning :
        (x : Beginning) → Begins token x (plain category) → Moves coming token (in_list kind category) aim parts (or_ends (in_list kind category) x kind)
    by_beginning (begins places skipped within) s = record { inner = plain category; comes_back = list_back kind category aim parts r; more = s }
    by_beginning no_beginning s =
        record {
          yields = subst (λ (l : List PlainTree). Yields aim (in_list kind category) (node kind (trees l))) (append-nil parts) (r.completes [] refl);
          closed = λ x. shut_end kind (trees parts) r.shut;
        }

behind_comma :
    (kind : Kind) (category : Category) (token : PlainToken) (rest : PlainTrees) → terminal token ≡ t.Comma
    → IsTrue (after_comma kind category rest) → IsTrue (after_entry kind category (more (leaf token) rest))
behind_comma kind category token none e h =
    and_from (may_end_with_comma kind) (is_word (t.Comma ∷ []) (leaf token)) h (ap (is_one_of (t.Comma ∷ [])) e)
behind_comma kind category token (more tree rest) e h =
    and_from (is_word (t.Comma ∷ []) (leaf token)) (is_a category tree && after_entry kind category rest) (ap (is_one_of (t.Comma ∷ [])) e) h

pub entry_ends :
    (kind : Kind) (category : Category) (coming : Terminal) (aim : Aim) (parts : List PlainTree)
    → Entered kind category (Yields aim) parts → Finishes coming (entered kind category) aim (node kind (trees parts))
entry_ends kind category coming aim parts r =
    record {
      yields =
          subst (λ (l : List PlainTree). Yields aim (entered kind category) (node kind (trees l))) (append-nil parts)
          (r.completes (entered kind category) [] refl);
      closed = λ x. shut_end kind (trees parts) r.shut;
    }

pub entered_moves :
    (coming : Terminal) (kind : Kind) (category : Category) (token : PlainToken) → terminal token ≡ coming → (aim : Aim) (parts : List PlainTree)
    → Entered kind category (Yields aim) parts → Moves coming token (entered kind category) aim parts (move (entered kind category) coming)
entered_moves t.Comma kind category token e aim parts r = λ after.
    record {
      readable = r.readable;
      shut = r.shut;
      completes = λ ended further h.
          subst (λ (l : List PlainTree). Yields aim ended (node kind (trees l))) (sym (append_assoc parts (leaf token ∷ []) further))
          (r.completes ended (leaf token ∷ further) (behind_comma kind category token (trees further) e h));
    }
entered_moves _ kind category token e aim parts r = entry_ends kind category _ aim parts r

pub entry_back :
    (kind : Kind) (category : Category) (aim : Aim) (parts : List PlainTree) → SeparatedFrom kind category (Yields aim) parts
    → Awaits (entered kind category) parts (plain category) aim
entry_back kind category aim parts r coming ended tree y c =
    record {
      readable = r.readable;
      shut = r.shut;
      completes = λ ended further h.
          subst (λ (l : List PlainTree). Yields aim ended (node kind (trees l))) (sym (append_assoc parts (tree ∷ []) further))
          (r.completes ended (tree ∷ further) (and_from (is_a category tree) (after_entry kind category (trees further)) y h));
    }

pub comma_moves :
    (kind : Kind) (category : Category) (coming : Terminal) (token : PlainToken) → terminal token ≡ coming → (aim : Aim) (parts : List PlainTree)
    → SeparatedFrom kind category (Yields aim) parts → Moves coming token (separated_from kind category) aim parts (comma_move kind category coming)
comma_moves kind category coming token e aim parts r = by_beginning (begins_part category coming) (begins_part_good category r.readable token coming e)
  where
    where_it_may_end :
        (x : Bool) → may_end_with_comma kind ≡ x → Moves coming token (separated_from kind category) aim parts (if x then finishes kind else fails)
    where_it_may_end false h = tt
    where_it_may_end true h =
        record {
          yields =
              subst (λ (l : List PlainTree). Yields aim (separated_from kind category) (node kind (trees l))) (append-nil parts)
              (r.completes (separated_from kind category) [] h);
          closed = λ x. shut_end kind (trees parts) r.shut;
        }

    by_beginning :
        (x : Beginning) → Begins token x (plain category)
        → Moves coming token (separated_from kind category) aim parts
        (elim x as (λ y. Move) [
          | begins places skipped inner ↦ enters (entered kind category) (begins places skipped inner)
          | no_beginning ↦ if may_end_with_comma kind then finishes kind else fails
        ])
    by_beginning (begins places skipped within) s = record { inner = plain category; comes_back = entry_back kind category aim parts r; more = s }
    by_beginning no_beginning s = where_it_may_end (may_end_with_comma kind) refl
