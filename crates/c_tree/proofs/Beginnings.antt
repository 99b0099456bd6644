-- What begins with a token is known from the start.
use Rattle.std.proofs.Common.{◌≡◌, ℕ, Bool, true, false, not, List, [], ◌∷◌, refl, ap, ◌∙◌, arith}
use Rattle.std.proofs.lemmas.Bool.{and_from}
use Rattle.std.specs.Prelude.{nat_le, IsTrue, if◌then◌else◌}
use Rattle.std.specs.List.{list_any}
use Rattle.c_text.specs.Token.{PlainToken}
use Rattle.c_tree.specs.declared.kinds.Kind.{Kind}
use Rattle.c_tree.specs.declared.kinds.Kind.TheVariants as k
use Rattle.c_tree.specs.declared.terminals.Terminal.{Terminal}
use Rattle.c_tree.specs.declared.terminals.Terminal.TheVariants as t
use Rattle.c_tree.specs.Terminals.{terminal, same, is_one_of}
use Rattle.c_tree.specs.Trees.{PlainTree, PlainTrees, leaf, node, more, trees}
use Rattle.c_tree.specs.Grammar.{Category, expression, cast_type, specifiers, Slot, needed, row, fine, is_kind, is_a, is_word, are_texts, any_part, are_in_row, are_words, nearest_if, types, cast_types}
use Rattle.c_tree.specs.Places.{Place, inside, operand, operator, opened, in_texts, in_words, Wording, cast_wording, type_wording, wordings, goes_on, are_same, Beginning, no_beginning, begins, around, either, begins_words, begins_expression}
use Rattle.c_tree.proofs.Fits.{Aim, plain, an_operand, words_of, Yields, Awaits, Begins, Fits, Counts, Leaves, is_tidy, is_if}
use Rattle.c_tree.proofs.Rows.{nat_le_more, next_word, leaf_first, same-refl, are_words_of-same}

pub begins_around :
    (token : PlainToken) (place : Place) (beginning : Beginning) (inner outer : Aim)
    → Awaits place [] inner outer → Begins token beginning inner → Begins token (around place beginning) outer
begins_around token place no_beginning inner outer a b = tt
begins_around token place (begins places skipped within) inner outer a b = record { inner = inner; comes_back = a; more = b }

pub begins_either :
    (token : PlainToken) (first second : Beginning) (aim : Aim) → Begins token first aim → Begins token second aim
    → Begins token (either first second) aim
begins_either token no_beginning second aim f s = s
begins_either token (begins places skipped within) second aim f s = f

begins_where :
    (token : PlainToken) (b : Bool) (what : Beginning) (aim : Aim) → Begins token what aim
    → Begins token (if b then what else no_beginning) aim
begins_where token true what aim h = h
begins_where token false what aim h = tt

-- ---- nodes with a fixed list of parts

pub row_begins :
    (kind : Kind) (slots : List Slot) (token : PlainToken) (coming : Terminal) → terminal token ≡ coming
    → next_word (row kind) coming ≡ fine slots → IsTrue (is_tidy kind slots) → IsTrue (not (is_kind k.Absent kind))
    → (IsTrue (is_if kind) → Counts slots (leaf token ∷ [])) → ((coming : Terminal) → Leaves coming slots (leaf token ∷ []))
    → (aim : Aim)
    → ((left : List Slot) (rest : PlainTrees) → IsTrue (are_in_row (row kind) rest) → (IsTrue (is_if kind) → IsTrue (nearest_if rest))
    → Yields aim (inside kind left) (node kind rest))
    → Begins token (begins [] false (inside kind slots)) aim
row_begins kind slots token coming e f tidy solid counts leaves aim accepts after =
    record {
      tidy = tidy;
      solid = solid;
      completes = λ left further h near.
          accepts left (more (leaf token) (trees further)) (leaf_first (row kind) slots token coming (trees further) e f h) near;
      counts = counts;
      leaves = leaves after;
    }

-- ---- expressions

abbrev pub Accepts : Category → Aim → Type 0
Accepts category aim = (ended : Place) (tree : PlainTree) → IsTrue (is_a category tree) → Yields aim ended tree

pub operand_back : (wanted : ℕ) (aim : Aim) → Accepts (expression wanted) aim → Awaits (operand wanted) [] (an_operand wanted) aim
operand_back wanted aim accepts coming ended tree y c =
    record { tree = tree; alone = refl; tight = y.tight; read = y.expression; accepts = accepts }

module _ (wanted : ℕ) (low : IsTrue (nat_le wanted 14)) (token : PlainToken) (aim : Aim) (accepts : Accepts (expression wanted) aim) where
  single_begins :
      (kind : Terminal) → terminal token ≡ kind → is_one_of (t.Name ∷ t.Number ∷ t.Character ∷ []) kind ≡ true
      → Begins token (begins [] false (operator wanted 16)) aim
  single_begins kind e single after =
      record {
        tree = leaf token;
        alone = refl;
        tight = nat_le_more wanted 14 16 low (omega arith);
        read = ap (is_one_of (t.Name ∷ t.Number ∷ t.Character ∷ [])) e ∙ single;
        accepts = accepts;
      }

  operand_begins : (place : Place) → ((coming : Terminal) → Fits coming place (Yields (an_operand wanted)) (leaf token ∷ [])) → Begins token (begins (operand wanted ∷ []) false place) aim
  operand_begins place fits = record { inner = an_operand wanted; comes_back = operand_back wanted aim accepts; more = fits }

  prefix_begins :
      (kind : Terminal) → terminal token ≡ kind → next_word (row k.Prefix) kind ≡ fine (needed (expression 13) ∷ [])
      → Begins token (begins (operand wanted ∷ []) false (inside k.Prefix (needed (expression 13) ∷ []))) aim
  prefix_begins kind e f =
      operand_begins (inside k.Prefix (needed (expression 13) ∷ []))
      (row_begins k.Prefix (needed (expression 13) ∷ []) token kind e f refl refl (λ i. absurd cc) (λ coming. tt) (an_operand wanted)
      (λ left rest h near. record { tight = low; expression = h }))

  pub begins_expression_good : (kind : Terminal) → terminal token ≡ kind → Begins token (begins_expression wanted kind) aim
  begins_expression_good t.Name e = single_begins t.Name e refl
  begins_expression_good t.Number e = single_begins t.Number e refl
  begins_expression_good t.Character e = single_begins t.Character e refl
  begins_expression_good t.Text e =
      operand_begins in_texts
      (λ coming further h. record {
        tight = nat_le_more wanted 14 16 low (omega arith);
        expression =
            and_from (are_texts (more (leaf token) (trees further))) (any_part (more (leaf token) (trees further)))
            (and_from (is_word (t.Text ∷ []) (leaf token)) (are_texts (trees further)) (ap (is_one_of (t.Text ∷ [])) e) h) refl;
      })
  begins_expression_good t.OpenParenthesis e =
      operand_begins (opened wanted)
      (λ coming. record { token = token; alone = refl; opens = e; readable = low; accepts = λ ended tree h. h })
  begins_expression_good t.Ampersand e = prefix_begins t.Ampersand e refl
  begins_expression_good t.Star e = prefix_begins t.Star e refl
  begins_expression_good t.Sign e = prefix_begins t.Sign e refl
  begins_expression_good t.Negation e = prefix_begins t.Negation e refl
  begins_expression_good t.Step e =
      operand_begins (inside k.PrefixStep (needed (expression 14) ∷ []))
      (row_begins k.PrefixStep (needed (expression 14) ∷ []) token t.Step e refl refl refl (λ i. absurd cc) (λ coming. tt) (an_operand wanted)
      (λ left rest h near. record { tight = low; expression = h }))
  begins_expression_good _ e = tt

-- ---- words

pub begins_words_good :
    (wording : Wording) (token : PlainToken) (kind : Terminal) → terminal token ≡ kind → (aim : Aim)
    → ((words : List Terminal) (parts : PlainTrees) → IsTrue (are_words words parts)
    → IsTrue (list_any (are_same words) (wordings wording)) → Yields aim (in_words wording words) (node k.Specifiers parts))
    → Begins token (begins_words wording kind) aim
begins_words_good wording token kind e aim accepts =
    begins_where token (list_any (goes_on (kind ∷ [])) (wordings wording)) (begins [] false (in_words wording (kind ∷ []))) aim
    (λ coming. record { are = and_from (same kind (terminal token)) true (ap (same kind) e ∙ same-refl kind) refl; accepts = accepts })

pub begins_these_words :
    (wording : Wording) (token : PlainToken) (kind : Terminal) → terminal token ≡ kind → Begins token (begins_words wording kind) (words_of wording)
begins_these_words wording token kind e =
    begins_words_good wording token kind e (words_of wording)
    (λ words parts are lawful. record { parts = parts; node = refl; words = are; lawful = lawful })

pub begins_specifiers : (token : PlainToken) (kind : Terminal) → terminal token ≡ kind → Begins token (begins_words type_wording kind) (plain specifiers)
begins_specifiers token kind e =
    begins_words_good type_wording token kind e (plain specifiers)
    (λ words parts are lawful. are_words_of-same types words parts lawful are)

pub begins_cast_type : (token : PlainToken) (kind : Terminal) → terminal token ≡ kind → Begins token (begins_words cast_wording kind) (plain cast_type)
begins_cast_type token kind e =
    begins_words_good cast_wording token kind e (plain cast_type)
    (λ words parts are lawful. are_words_of-same cast_types words parts lawful are)
