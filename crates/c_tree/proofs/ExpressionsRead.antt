-- Expressions are read as themselves, in every place that wants no tighter one.
use Rattle.std.proofs.Common.{◌≡◌, ℕ, ◌+◌, ◌<◌, ◌≤◌, Bool, true, false, ◌&&◌, List, [], ◌∷◌, ◌++◌, refl, ap, sym, ◌∙◌, arith}
use Rattle.std.specs.Prelude.{IsTrue, nat_le, if◌then◌else◌}
use Rattle.std.proofs.lemmas.Bool.{and_parts, and_from, false≢true, leb-true, le-leb, lt-leb}
use Rattle.std.proofs.lemmas.Bool.Decides.{nat_tests}
use Rattle.std.proofs.lemmas.List.{append_assoc, append-nil}
use Rattle.c_text.specs.Token.{PlainToken}
use Rattle.c_tree.specs.declared.kinds.Kind.{Kind}
use Rattle.c_tree.specs.declared.kinds.Kind.TheVariants as k
use Rattle.c_tree.specs.declared.terminals.Terminal.{Terminal}
use Rattle.c_tree.specs.declared.terminals.Terminal.TheVariants as t
use Rattle.c_tree.specs.Terminals.{terminal, is_one_of}
use Rattle.c_tree.specs.Trees.{PlainTree, PlainTrees, leaf, node, none, more, absent, written, all_written}
use Rattle.c_tree.specs.Grammar.{Category, expression, arguments, cast_type, Slot, word, needed, optional, row, level, is_a, is_single, belongs, agree, shape, Shape, in_row, of_words, of_texts, repeated, any_number, separated, separated_or_ended, declaring, are_in_row, are_words_of, are_texts, any_part, are_each, are_separated, are_separated_or_ended, are_declared}
use Rattle.c_tree.specs.Places.{inside, operand, operator, opened, in_texts, no_beginning, begins, shifts, takes, finishes, passes, move, Operator, no_operator, operator_of, operator_at, operator_move, begins_expression, begins_words, begins_part, cast_wording, behind_first, or_fails}
use Rattle.c_tree.specs.Machine.{Frame, frame}
use Rattle.c_tree.proofs.TerminalCases.{EachOf, one_of}
use Rattle.c_tree.proofs.Coming.{ahead, reading, entering, shifting, taking, passing, finishing, needing, entering_node, entering_inner}
use Rattle.c_tree.proofs.Readable.{binds, binds_of, level_of, edge, expression_firsts, cast_firsts, MayFollow, Opens, Joins, Readable, AllReadable, listed}
use Rattle.c_tree.proofs.RowsRead.{InRow, row_ended, word_part, needed_part, absent_part, present_part, Fit, fixed_row, trees_listed, node_read}

-- ---- what a node of a category is

abbrev pub shaped : Shape → PlainTrees → Bool
shaped s parts = elim s as (λ x. Bool) [
  | in_row slots ↦ are_in_row slots parts
  | of_words lists ↦ are_words_of lists parts
  | of_texts ↦ are_texts parts && any_part parts
  | repeated each ↦ are_each each parts && any_part parts
  | any_number each ↦ are_each each parts
  | separated each ↦ are_separated each parts
  | separated_or_ended each ↦ are_separated_or_ended each parts
  | declaring role ↦ are_declared role parts
]

pub record Formed (category : Category) (kind : Kind) (parts : PlainTrees) : Type 0 where
  pub belongs_there : IsTrue (belongs category kind)
  pub agreeing : IsTrue (agree kind parts)
  pub shaped_so : IsTrue (shaped (shape category kind) parts)

pub formed :
    (category : Category) (kind : Kind) (parts : PlainTrees) → IsTrue (is_a category (node kind parts)) → Formed category kind parts
formed category kind parts h =
    let outer : _ × _ = and_parts (belongs category kind && agree kind parts) (shaped (shape category kind) parts) h in
    let inner : _ × _ = and_parts (belongs category kind) (agree kind parts) outer.0 in
    record { belongs_there = inner.0; agreeing = inner.1; shaped_so = outer.1 }

-- ---- levels

edge_grows : (l n : ℕ) → n ≤ l → n ≤ 13 → n ≤ edge l
edge_grows l n h small = grind (arith, nat_tests)

edge_above : (l b : ℕ) → 3 ≤ l → b ≤ l → b ≤ 12 → b < edge l
edge_above l b h below small = grind (arith, nat_tests)

edge_postfix : (l : ℕ) → 15 ≤ l → 15 < edge l
edge_postfix l h = grind (arith, nat_tests)

level_at_least : (wanted : ℕ) (tree : PlainTree) → wanted ≤ 16 → IsTrue (is_a (expression wanted) tree) → wanted ≤ level_of tree
level_at_least wanted (leaf token) small h = small
level_at_least wanted (node kind parts) small h =
    let both : _ × _ =
    and_parts (nat_le 1 (level kind)) (nat_le wanted (level kind)) (formed (expression wanted) kind parts h).belongs_there in
    leb-true wanted (level kind) both.1

shape_same : (first second : ℕ) (kind : Kind) → shape (expression first) kind ≡ shape (expression second) kind
shape_same first second k.Absent = refl
shape_same first second _ = refl

-- a place that wants less takes it too
looser : (wanted own : ℕ) (tree : PlainTree) → wanted ≤ own → IsTrue (is_a (expression own) tree) → IsTrue (is_a (expression wanted) tree)
looser wanted own (leaf token) less h = h
looser wanted own (node kind parts) less h =
    let form : Formed (expression own) kind parts = formed (expression own) kind parts h in
    let both : _ × _ = and_parts (nat_le 1 (level kind)) (nat_le own (level kind)) form.belongs_there in
    let enough : own ≤ level kind = leb-true own (level kind) both.1 in
    and_from (belongs (expression wanted) kind && agree kind parts) (shaped (shape (expression wanted) kind) parts)
    (and_from (belongs (expression wanted) kind) (agree kind parts)
    (and_from (nat_le 1 (level kind)) (nat_le wanted (level kind)) both.0 (le-leb wanted (level kind) (omega arith)))
    form.agreeing)
    (rw (shape_same wanted own kind) form.shaped_so)

-- what may follow an expression at the end of another
right_edge :
    (wanted n : ℕ) (tree : PlainTree) (x : Terminal) → IsTrue (is_a (expression wanted) tree) → wanted ≤ 16 → n ≤ wanted → n ≤ 13
    → binds x < n → MayFollow (expression wanted) tree x
right_edge wanted n tree x h small less few below =
    let enough : wanted ≤ level_of tree = level_at_least wanted tree small h in
    let over : n ≤ edge (level_of tree) = edge_grows (level_of tree) n (omega arith) few in
    (omega arith, omega arith)

-- what is no operator may follow any expression
pub closed :
    (wanted : ℕ) (tree : PlainTree) (ks : List Terminal) (x : Terminal) → IsTrue (is_a (expression wanted) tree) → wanted ≤ 16 → 1 ≤ wanted
    → IsTrue (is_one_of ks x) → EachOf (λ x. binds x ≡ 0) ks → MayFollow (expression wanted) tree x
closed wanted tree ks x h small some one each =
    let none_binds : binds x ≡ 0 = one_of (λ x. binds x ≡ 0) ks x one each in
    right_edge wanted 1 tree x h small some (omega arith) (omega arith)

-- ---- the end of an expression

operator_passes :
    (wanted own : ℕ) (o : Operator) → binds_of o < wanted → operator_move wanted own o ≡ passes
operator_passes wanted own no_operator h = refl
operator_passes wanted own (operator_of kind left) h =
    ap (λ b. if b && nat_le left own then takes (operand wanted) (inside kind (behind_first (behind_first (row kind)))) else passes)
    (lt-leb wanted (level kind) h)

not_taken :
    (wanted own : ℕ) (x : Terminal) → binds x < wanted → operator_move wanted own (operator_at x) ≡ passes
not_taken wanted own t.Text h = refl
not_taken wanted own x h = operator_passes wanted own (operator_at x) h

binds-operator : (x : Terminal) (kind : Kind) (left : ℕ) → operator_at x ≡ operator_of kind left → binds x ≡ level kind
binds-operator t.Text kind left e = cc
binds-operator x kind left e = ap binds_of e

texts_end : (x : Terminal) → binds x < 17 → move in_texts x ≡ finishes k.Texts
texts_end t.Text h = absurd (omega arith)
texts_end x h = refl

pub joins_expression :
    (wanted : ℕ) (tree : PlainTree) → Opens wanted tree → Joins (expression wanted) tree
joins_expression wanted tree opens place parts frames rest steady follows =
    opens (frame place parts ∷ frames) rest follows.1
    ∙ passing (operator wanted (level_of tree)) (tree ∷ []) (frame place parts ∷ frames) rest
    (not_taken wanted (level_of tree) (ahead rest) follows.0)
    ∙ ap (λ p. reading (frame p (parts ++ tree ∷ []) ∷ frames) rest) (steady (operator wanted (level_of tree)))

-- ---- expressions that begin with an operand

module _ (kind : Kind) (left wanted : ℕ) (first : PlainTree) (token : PlainToken) (slots : List Slot) (ps : PlainTrees) where
  operand_leads :
      IsTrue (nat_le wanted (level kind)) → wanted ≤ left → left ≤ 16 → IsTrue (is_a (expression left) first)
      → operator_at (terminal token) ≡ operator_of kind left → behind_first (behind_first (row kind)) ≡ slots
      → level kind < edge (level_of first)
      → Readable first → (r : InRow slots ps) → AllReadable ps
      → (frames : List (Frame PlainTree)) (rest : List PlainToken) → Fit r rest
      → entering (begins_expression wanted) frames (written first (token ∷ all_written ps rest))
      ≡ reading (frame (operator wanted (level kind)) (node kind (more first (more (leaf token) ps)) ∷ []) ∷ frames) rest
  operand_leads fits less small h is_operator slots_are over readable r all frames rest fit =
      let enough : left ≤ level_of first = level_at_least left first small h in
      readable.opens wanted (looser wanted left first less h) frames (token ∷ all_written ps rest)
      (rw (binds-operator (terminal token) kind left is_operator) over)
      ∙ taking (operator wanted (level_of first)) (first ∷ []) frames token (all_written ps rest) (operand wanted) (inside kind slots)
      (ap (operator_move wanted (level_of first)) is_operator
      ∙ ap (λ b. if b && nat_le left (level_of first) then takes (operand wanted) (inside kind (behind_first (behind_first (row kind)))) else passes) fits
      ∙ ap (λ b. if b then takes (operand wanted) (inside kind (behind_first (behind_first (row kind)))) else passes)
      (le-leb left (level_of first) enough)
      ∙ ap (λ s. takes (operand wanted) (inside kind s)) slots_are)
      ∙ node_read kind r all (first ∷ leaf token ∷ []) (operand wanted) [] frames rest fit
      ∙ ap (λ ps. reading (frame (operator wanted (level kind)) (node kind (more first (more (leaf token) ps)) ∷ []) ∷ frames) rest)
      (trees_listed ps)

binary_opens :
    (kind : Kind) (own next wanted : ℕ) (ops : List Terminal) (ps : PlainTrees)
    → IsTrue (nat_le wanted (level kind)) → wanted ≤ level kind → level kind ≡ own → 3 ≤ own → own ≤ 12 → next ≡ own + 1 → edge (level kind) ≡ next
    → behind_first (behind_first (row kind)) ≡ needed (expression next) ∷ []
    → EachOf (λ x. operator_at x ≡ operator_of kind own) ops
    → InRow (needed (expression own) ∷ word ops ∷ needed (expression next) ∷ []) ps → AllReadable ps → Opens wanted (node kind ps)
binary_opens kind own next wanted ops ps fits less own_is some few next_is edge_is slots_are operators
    (needed_part {tree = first} a (word_part {token = token} o (needed_part {tree = last} b row_ended))) all frames rest below =
    operand_leads kind own wanted first token (needed (expression next) ∷ []) (more last none) fits (omega arith) (omega arith) a
    (one_of (λ x. operator_at x ≡ operator_of kind own) ops (terminal token) o operators) slots_are
    (let enough : own ≤ level_of first = level_at_least own first (omega arith) a in
    edge_above (level_of first) (level kind) (omega arith) (omega arith) (omega arith))
    all.0 (needed_part b row_ended) (all.1).1 frames rest
    (refl, right_edge next next last (ahead rest) b (omega arith) (omega arith) (omega arith) (rw edge_is at below), tt)

assignment_opens :
    (wanted : ℕ) (ps : PlainTrees) → IsTrue (nat_le wanted 1) → wanted ≤ 1 → InRow (row k.Assignment) ps → AllReadable ps
    → Opens wanted (node k.Assignment ps)
assignment_opens wanted ps fits less
    (needed_part {tree = first} a (word_part {token = token} o (needed_part {tree = last} b row_ended))) all frames rest below =
    operand_leads k.Assignment 14 wanted first token (needed (expression 1) ∷ []) (more last none) fits (omega arith) (omega arith) a
    (one_of (λ x. operator_at x ≡ operator_of k.Assignment 14) (t.Assign ∷ t.CompoundAssign ∷ []) (terminal token) o (refl, (refl, tt)))
    refl
    (let enough : 14 ≤ level_of first = level_at_least 14 first (omega arith) a in
    edge_above (level_of first) 1 (omega arith) (omega arith) (omega arith))
    all.0 (needed_part b row_ended) (all.1).1 frames rest
    (refl, right_edge 1 1 last (ahead rest) b (omega arith) (omega arith) (omega arith) below, tt)

conditional_opens :
    (wanted : ℕ) (ps : PlainTrees) → IsTrue (nat_le wanted 2) → wanted ≤ 2 → InRow (row k.Conditional) ps → AllReadable ps
    → Opens wanted (node k.Conditional ps)
conditional_opens wanted ps fits less
    (needed_part {tree = first} a (word_part {token = token} o
    (needed_part {tree = middle} b (word_part {token = colon} c (needed_part {tree = last} d row_ended))))) all frames rest below =
    operand_leads k.Conditional 3 wanted first token
    (needed (expression 1) ∷ word (t.Colon ∷ []) ∷ needed (expression 2) ∷ []) (more middle (more (leaf colon) (more last none)))
    fits (omega arith) (omega arith) a
    (one_of (λ x. operator_at x ≡ operator_of k.Conditional 3) (t.Question ∷ []) (terminal token) o (refl, tt))
    refl
    (let enough : 3 ≤ level_of first = level_at_least 3 first (omega arith) a in
    edge_above (level_of first) 2 (omega arith) (omega arith) (omega arith))
    all.0 (needed_part b (word_part c (needed_part d row_ended))) (all.1).1 frames rest (
      refl,
      closed 1 middle (t.Colon ∷ []) (terminal colon) b (omega arith) (omega arith) c (refl, tt),
      (refl, right_edge 2 2 last (ahead rest) d (omega arith) (omega arith) (omega arith) below, tt),
    )

step_opens :
    (wanted : ℕ) (ps : PlainTrees) → IsTrue (nat_le wanted 15) → wanted ≤ 15 → InRow (row k.PostfixStep) ps → AllReadable ps
    → Opens wanted (node k.PostfixStep ps)
step_opens wanted ps fits less (needed_part {tree = first} a (word_part {token = token} o row_ended)) all frames rest below =
    operand_leads k.PostfixStep 15 wanted first token [] none fits less (omega arith) a
    (one_of (λ x. operator_at x ≡ operator_of k.PostfixStep 15) (t.Step ∷ []) (terminal token) o (refl, tt)) refl
    (edge_postfix (level_of first) (level_at_least 15 first (omega arith) a))
    all.0 row_ended tt frames rest tt

index_opens :
    (wanted : ℕ) (ps : PlainTrees) → IsTrue (nat_le wanted 15) → wanted ≤ 15 → InRow (row k.Index) ps → AllReadable ps
    → Opens wanted (node k.Index ps)
index_opens wanted ps fits less
    (needed_part {tree = first} a (word_part {token = token} o
    (needed_part {tree = middle} b (word_part {token = last} c row_ended)))) all frames rest below =
    operand_leads k.Index 15 wanted first token (needed (expression 1) ∷ word (t.CloseBracket ∷ []) ∷ [])
    (more middle (more (leaf last) none)) fits less (omega arith) a
    (one_of (λ x. operator_at x ≡ operator_of k.Index 15) (t.OpenBracket ∷ []) (terminal token) o (refl, tt)) refl
    (edge_postfix (level_of first) (level_at_least 15 first (omega arith) a))
    all.0 (needed_part b (word_part c row_ended)) (all.1).1 frames rest
    (refl, closed 1 middle (t.CloseBracket ∷ []) (terminal last) b (omega arith) (omega arith) c (refl, tt), tt)

selection_opens :
    (wanted : ℕ) (ps : PlainTrees) → IsTrue (nat_le wanted 15) → wanted ≤ 15 → InRow (row k.Selection) ps → AllReadable ps
    → Opens wanted (node k.Selection ps)
selection_opens wanted ps fits less
    (needed_part {tree = first} a (word_part {token = token} o (word_part {token = last} c row_ended))) all frames rest below =
    operand_leads k.Selection 15 wanted first token (word (t.Name ∷ []) ∷ []) (more (leaf last) none) fits less (omega arith) a
    (one_of (λ x. operator_at x ≡ operator_of k.Selection 15) (t.Select ∷ []) (terminal token) o (refl, tt)) refl
    (edge_postfix (level_of first) (level_at_least 15 first (omega arith) a))
    all.0 (word_part c row_ended) (all.1).1 frames rest tt

call_opens :
    (wanted : ℕ) (ps : PlainTrees) → IsTrue (nat_le wanted 15) → wanted ≤ 15 → InRow (row k.Call) ps → AllReadable ps
    → Opens wanted (node k.Call ps)
call_opens wanted ps fits less
    (needed_part {tree = first} a (word_part {token = token} o (absent_part (word_part {token = last} c row_ended)))) all frames rest below =
    operand_leads k.Call 15 wanted first token (optional arguments ∷ word (t.CloseParenthesis ∷ []) ∷ [])
    (more absent (more (leaf last) none)) fits less (omega arith) a
    (one_of (λ x. operator_at x ≡ operator_of k.Call 15) (t.OpenParenthesis ∷ []) (terminal token) o (refl, tt)) refl
    (edge_postfix (level_of first) (level_at_least 15 first (omega arith) a))
    all.0 (absent_part (word_part c row_ended)) (all.1).1 frames rest
    (one_of (λ x. begins_part arguments x ≡ no_beginning) (t.CloseParenthesis ∷ []) (terminal last) c (refl, tt), tt)
call_opens wanted ps fits less
    (needed_part {tree = first} a (word_part {token = token} o
    (present_part {tree = middle} b (word_part {token = last} c row_ended)))) all frames rest below =
    operand_leads k.Call 15 wanted first token (optional arguments ∷ word (t.CloseParenthesis ∷ []) ∷ [])
    (more middle (more (leaf last) none)) fits less (omega arith) a
    (one_of (λ x. operator_at x ≡ operator_of k.Call 15) (t.OpenParenthesis ∷ []) (terminal token) o (refl, tt)) refl
    (edge_postfix (level_of first) (level_at_least 15 first (omega arith) a))
    all.0 (present_part b (word_part c row_ended)) (all.1).1 frames rest
    (refl, refl, c, tt)

-- ---- expressions that begin with a word

word_leads :
    (kind : Kind) (wanted : ℕ) (token : PlainToken) (slots : List Slot) (ps : PlainTrees)
    → begins_expression wanted (terminal token) ≡ begins (operand wanted ∷ []) false (inside kind slots)
    → (r : InRow slots ps) → AllReadable ps → (frames : List (Frame PlainTree)) (rest : List PlainToken) → Fit r rest
    → entering (begins_expression wanted) frames (token ∷ all_written ps rest)
    ≡ reading (frame (operator wanted (level kind)) (node kind (more (leaf token) ps) ∷ []) ∷ frames) rest
word_leads kind wanted token slots ps e r all frames rest fit =
    entering_inner (begins_expression wanted) (operand wanted) (inside kind slots) frames token (all_written ps rest) e
    ∙ node_read kind r all (leaf token ∷ []) (operand wanted) [] frames rest fit
    ∙ ap (λ ps. reading (frame (operator wanted (level kind)) (node kind (more (leaf token) ps) ∷ []) ∷ frames) rest) (trees_listed ps)

prefix_opens :
    (wanted : ℕ) (ps : PlainTrees) → InRow (row k.Prefix) ps → AllReadable ps → Opens wanted (node k.Prefix ps)
prefix_opens wanted ps (word_part {token = token} o (needed_part {tree = last} b row_ended)) all frames rest below =
    word_leads k.Prefix wanted token (needed (expression 13) ∷ []) (more last none)
    (one_of
    (λ x. begins_expression wanted x ≡ begins (operand wanted ∷ []) false (inside k.Prefix (needed (expression 13) ∷ [])))
    (t.Ampersand ∷ t.Star ∷ t.Sign ∷ t.Negation ∷ []) (terminal token) o (refl, (refl, (refl, (refl, tt)))))
    (needed_part b row_ended) all.1 frames rest
    (refl, right_edge 13 13 last (ahead rest) b (omega arith) (omega arith) (omega arith) below, tt)

prefix_step_opens :
    (wanted : ℕ) (ps : PlainTrees) → InRow (row k.PrefixStep) ps → AllReadable ps → Opens wanted (node k.PrefixStep ps)
prefix_step_opens wanted ps (word_part {token = token} o (needed_part {tree = last} b row_ended)) all frames rest below =
    word_leads k.PrefixStep wanted token (needed (expression 14) ∷ []) (more last none)
    (one_of
    (λ x. begins_expression wanted x ≡ begins (operand wanted ∷ []) false (inside k.PrefixStep (needed (expression 14) ∷ [])))
    (t.Step ∷ []) (terminal token) o (refl, tt))
    (needed_part b row_ended) all.1 frames rest
    (refl, right_edge 14 13 last (ahead rest) b (omega arith) (omega arith) (omega arith) below, tt)

-- behind a `(` there is a type or an expression
opened_by :
    (wanted : ℕ) (token : PlainToken) (frames : List (Frame PlainTree)) (tokens : List PlainToken)
    → IsTrue (is_one_of (t.OpenParenthesis ∷ []) (terminal token))
    → entering (begins_expression wanted) frames (token ∷ tokens)
    ≡ reading (frame (opened wanted) (leaf token ∷ []) ∷ frame (operand wanted) [] ∷ frames) tokens
opened_by wanted token frames tokens o =
    entering_inner (begins_expression wanted) (operand wanted) (opened wanted) frames token tokens
    (one_of (λ x. begins_expression wanted x ≡ begins (operand wanted ∷ []) false (opened wanted)) (t.OpenParenthesis ∷ [])
    (terminal token) o (refl, tt))

parenthesized_opens :
    (wanted : ℕ) (ps : PlainTrees) → InRow (row k.Parenthesized) ps → AllReadable ps → Opens wanted (node k.Parenthesized ps)
parenthesized_opens wanted ps
    (word_part {token = token} o (needed_part {tree = inner} b (word_part {token = last} c row_ended))) all frames rest below =
    let tokens : List PlainToken = written inner (last ∷ rest) in
    let outside : List (Frame PlainTree) = frame (operand wanted) [] ∷ frames in
    opened_by wanted token frames tokens o
    ∙ needing (opened wanted) (leaf token ∷ []) outside tokens (inside k.Parenthesized (word (t.CloseParenthesis ∷ []) ∷ []))
    (begins_expression 1)
    (one_of
    (λ x. move (opened wanted) x
    ≡ or_fails (inside k.Parenthesized (word (t.CloseParenthesis ∷ []) ∷ [])) (begins_expression 1 x))
    expression_firsts (ahead tokens) ((all.1).0.first (expression 1) b (last ∷ rest))
    (refl, (refl, (refl, (refl, (refl, (refl, (refl, (refl, (refl, (refl, tt)))))))))))
    ∙ sym
    (needing (inside k.Parenthesized (needed (expression 1) ∷ word (t.CloseParenthesis ∷ []) ∷ [])) (leaf token ∷ []) outside tokens
    (inside k.Parenthesized (word (t.CloseParenthesis ∷ []) ∷ [])) (begins_expression 1) refl)
    ∙ node_read k.Parenthesized (needed_part b (word_part c row_ended)) all.1 (leaf token ∷ []) (operand wanted) [] frames rest
    (refl, closed 1 inner (t.CloseParenthesis ∷ []) (terminal last) b (omega arith) (omega arith) c (refl, tt), tt)

cast_move :
    (wanted : ℕ) (x : Terminal) → IsTrue (nat_le wanted 13) → IsTrue (is_one_of cast_firsts x)
    → move (opened wanted) x
    ≡ or_fails (inside k.Cast (word (t.CloseParenthesis ∷ []) ∷ needed (expression 13) ∷ [])) (begins_words cast_wording x)
cast_move wanted x fits h =
    one_of
    (λ x. move (opened wanted) x
    ≡ or_fails (inside k.Cast (word (t.CloseParenthesis ∷ []) ∷ needed (expression 13) ∷ [])) (begins_words cast_wording x))
    cast_firsts x h
    (rw fits refl, (rw fits refl, (rw fits refl, (rw fits refl, (rw fits refl, tt)))))

cast_opens :
    (wanted : ℕ) (ps : PlainTrees) → IsTrue (nat_le wanted 13) → InRow (row k.Cast) ps → AllReadable ps → Opens wanted (node k.Cast ps)
cast_opens wanted ps fits
    (word_part {token = token} o
    (needed_part {tree = type} b (word_part {token = second} c (needed_part {tree = last} d row_ended)))) all frames rest below =
    let tokens : List PlainToken = written type (second ∷ written last rest) in
    let outside : List (Frame PlainTree) = frame (operand wanted) [] ∷ frames in
    opened_by wanted token frames tokens o
    ∙ needing (opened wanted) (leaf token ∷ []) outside tokens
    (inside k.Cast (word (t.CloseParenthesis ∷ []) ∷ needed (expression 13) ∷ [])) (begins_words cast_wording)
    (cast_move wanted (ahead tokens) fits ((all.1).0.first cast_type b (second ∷ written last rest)))
    ∙ sym
    (needing (inside k.Cast (needed cast_type ∷ word (t.CloseParenthesis ∷ []) ∷ needed (expression 13) ∷ [])) (leaf token ∷ [])
    outside tokens (inside k.Cast (word (t.CloseParenthesis ∷ []) ∷ needed (expression 13) ∷ [])) (begins_words cast_wording) refl)
    ∙ node_read k.Cast (needed_part b (word_part c (needed_part d row_ended))) all.1 (leaf token ∷ []) (operand wanted) [] frames rest
    (refl, c, (refl, right_edge 13 13 last (ahead rest) d (omega arith) (omega arith) (omega arith) below, tt))

-- ---- texts

texts_read :
    (ps : PlainTrees) (parts : List PlainTree) (frames : List (Frame PlainTree)) (rest : List PlainToken)
    → IsTrue (are_texts ps)
    → reading (frame in_texts parts ∷ frames) (all_written ps rest) ≡ reading (frame in_texts (parts ++ listed ps) ∷ frames) rest
texts_read none parts frames rest h = ap (λ ps. reading (frame in_texts ps ∷ frames) rest) (sym (append-nil parts))
texts_read (more (leaf token) ps) parts frames rest h =
    let both : _ × _ = and_parts (is_one_of (t.Text ∷ []) (terminal token)) (are_texts ps) h in
    shifting in_texts parts frames token (all_written ps rest) in_texts
    (one_of (λ x. move in_texts x ≡ shifts in_texts) (t.Text ∷ []) (terminal token) both.0 (refl, tt))
    ∙ texts_read ps (parts ++ leaf token ∷ []) frames rest both.1
    ∙ ap (λ ps. reading (frame in_texts ps ∷ frames) rest) (append_assoc parts (leaf token ∷ []) (listed ps))
texts_read (more (node kind inner) ps) parts frames rest h = absurd (false≢true h)

texts_open : (wanted : ℕ) (ps : PlainTrees) → IsTrue (are_texts ps && any_part ps) → Opens wanted (node k.Texts ps)
texts_open wanted none h frames rest below = absurd (false≢true h)
texts_open wanted (more (node kind inner) ps) h frames rest below = absurd (false≢true h)
texts_open wanted (more (leaf token) ps) h frames rest below =
    let outer : _ × _ = and_parts (are_texts (more (leaf token) ps)) true h in
    let both : _ × _ = and_parts (is_one_of (t.Text ∷ []) (terminal token)) (are_texts ps) outer.0 in
    let outside : List (Frame PlainTree) = frame (operand wanted) [] ∷ frames in
    entering_inner (begins_expression wanted) (operand wanted) in_texts frames token (all_written ps rest)
    (one_of (λ x. begins_expression wanted x ≡ begins (operand wanted ∷ []) false in_texts) (t.Text ∷ []) (terminal token) both.0
    (refl, tt))
    ∙ texts_read ps (leaf token ∷ []) outside rest both.1
    ∙ finishing in_texts (leaf token ∷ listed ps) outside rest k.Texts (texts_end (ahead rest) below)
    ∙ ap (λ ps. reading (frame (operator wanted 16) (node k.Texts (more (leaf token) ps) ∷ []) ∷ frames) rest) (trees_listed ps)

-- ---- all expressions

single_opens : (wanted : ℕ) (token : PlainToken) → IsTrue (is_single (expression wanted) (terminal token)) → Opens wanted (leaf token)
single_opens wanted token h frames rest below =
    entering_node (begins_expression wanted) (operator wanted 16) frames token rest
    (one_of (λ x. begins_expression wanted x ≡ begins [] false (operator wanted 16)) (t.Name ∷ t.Number ∷ t.Character ∷ [])
    (terminal token) h (refl, (refl, (refl, tt))))

node_opens :
    (kind : Kind) (wanted : ℕ) (ps : PlainTrees) → Formed (expression wanted) kind ps → AllReadable ps → Opens wanted (node kind ps)
node_opens k.Assignment wanted ps f all =
    assignment_opens wanted ps f.belongs_there (leb-true wanted 1 f.belongs_there) (fixed_row (row k.Assignment) ps refl f.shaped_so) all
node_opens k.Conditional wanted ps f all =
    conditional_opens wanted ps f.belongs_there (leb-true wanted 2 f.belongs_there) (fixed_row (row k.Conditional) ps refl f.shaped_so) all
node_opens k.LogicalOr wanted ps f all =
    binary_opens k.LogicalOr 3 4 wanted (t.OrOr ∷ []) ps f.belongs_there (leb-true wanted 3 f.belongs_there) refl (omega arith)
    (omega arith) refl refl refl (refl, tt) (fixed_row (row k.LogicalOr) ps refl f.shaped_so) all
node_opens k.LogicalAnd wanted ps f all =
    binary_opens k.LogicalAnd 4 5 wanted (t.AndAnd ∷ []) ps f.belongs_there (leb-true wanted 4 f.belongs_there) refl (omega arith)
    (omega arith) refl refl refl (refl, tt) (fixed_row (row k.LogicalAnd) ps refl f.shaped_so) all
node_opens k.Or wanted ps f all =
    binary_opens k.Or 5 6 wanted (t.Bar ∷ []) ps f.belongs_there (leb-true wanted 5 f.belongs_there) refl (omega arith)
    (omega arith) refl refl refl (refl, tt) (fixed_row (row k.Or) ps refl f.shaped_so) all
node_opens k.Xor wanted ps f all =
    binary_opens k.Xor 6 7 wanted (t.Caret ∷ []) ps f.belongs_there (leb-true wanted 6 f.belongs_there) refl (omega arith)
    (omega arith) refl refl refl (refl, tt) (fixed_row (row k.Xor) ps refl f.shaped_so) all
node_opens k.And wanted ps f all =
    binary_opens k.And 7 8 wanted (t.Ampersand ∷ []) ps f.belongs_there (leb-true wanted 7 f.belongs_there) refl (omega arith)
    (omega arith) refl refl refl (refl, tt) (fixed_row (row k.And) ps refl f.shaped_so) all
node_opens k.Equality wanted ps f all =
    binary_opens k.Equality 8 9 wanted (t.Equality ∷ []) ps f.belongs_there (leb-true wanted 8 f.belongs_there) refl (omega arith)
    (omega arith) refl refl refl (refl, tt) (fixed_row (row k.Equality) ps refl f.shaped_so) all
node_opens k.Relation wanted ps f all =
    binary_opens k.Relation 9 10 wanted (t.Relation ∷ []) ps f.belongs_there (leb-true wanted 9 f.belongs_there) refl (omega arith)
    (omega arith) refl refl refl (refl, tt) (fixed_row (row k.Relation) ps refl f.shaped_so) all
node_opens k.Shift wanted ps f all =
    binary_opens k.Shift 10 11 wanted (t.Shift ∷ []) ps f.belongs_there (leb-true wanted 10 f.belongs_there) refl (omega arith)
    (omega arith) refl refl refl (refl, tt) (fixed_row (row k.Shift) ps refl f.shaped_so) all
node_opens k.Sum wanted ps f all =
    binary_opens k.Sum 11 12 wanted (t.Sign ∷ []) ps f.belongs_there (leb-true wanted 11 f.belongs_there) refl (omega arith)
    (omega arith) refl refl refl (refl, tt) (fixed_row (row k.Sum) ps refl f.shaped_so) all
node_opens k.Product wanted ps f all =
    binary_opens k.Product 12 13 wanted (t.Star ∷ t.Divide ∷ []) ps f.belongs_there (leb-true wanted 12 f.belongs_there) refl (omega arith)
    (omega arith) refl refl refl (refl, (refl, tt)) (fixed_row (row k.Product) ps refl f.shaped_so) all
node_opens k.Cast wanted ps f all = cast_opens wanted ps f.belongs_there (fixed_row (row k.Cast) ps refl f.shaped_so) all
node_opens k.Prefix wanted ps f all = prefix_opens wanted ps (fixed_row (row k.Prefix) ps refl f.shaped_so) all
node_opens k.PrefixStep wanted ps f all = prefix_step_opens wanted ps (fixed_row (row k.PrefixStep) ps refl f.shaped_so) all
node_opens k.PostfixStep wanted ps f all =
    step_opens wanted ps f.belongs_there (leb-true wanted 15 f.belongs_there) (fixed_row (row k.PostfixStep) ps refl f.shaped_so) all
node_opens k.Index wanted ps f all =
    index_opens wanted ps f.belongs_there (leb-true wanted 15 f.belongs_there) (fixed_row (row k.Index) ps refl f.shaped_so) all
node_opens k.Call wanted ps f all =
    call_opens wanted ps f.belongs_there (leb-true wanted 15 f.belongs_there) (fixed_row (row k.Call) ps refl f.shaped_so) all
node_opens k.Selection wanted ps f all =
    selection_opens wanted ps f.belongs_there (leb-true wanted 15 f.belongs_there) (fixed_row (row k.Selection) ps refl f.shaped_so) all
node_opens k.Parenthesized wanted ps f all = parenthesized_opens wanted ps (fixed_row (row k.Parenthesized) ps refl f.shaped_so) all
node_opens k.Texts wanted ps f all = texts_open wanted ps f.shaped_so
node_opens _ wanted ps f all = absurd (false≢true f.belongs_there)

abbrev pub AllParts : PlainTree → Type 0
AllParts (leaf token) = Unit {0}
AllParts (node kind parts) = AllReadable parts

pub expression_opens :
    (wanted : ℕ) (tree : PlainTree) → AllParts tree → IsTrue (is_a (expression wanted) tree) → Opens wanted tree
expression_opens wanted (leaf token) all h = single_opens wanted token h
expression_opens wanted (node kind parts) all h = node_opens kind wanted parts (formed (expression wanted) kind parts h) all

pub expression_joins :
    (wanted : ℕ) (tree : PlainTree) → AllParts tree → IsTrue (is_a (expression wanted) tree) → Joins (expression wanted) tree
expression_joins wanted tree all h = joins_expression wanted tree (expression_opens wanted tree all h)
