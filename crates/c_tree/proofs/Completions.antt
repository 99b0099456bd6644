-- A node that has begun can be completed.
use Rattle.std.proofs.Common.{◌≡◌, ℕ, Bool, true, false, not, ◌&&◌, ◌||◌, List, [], ◌∷◌, ◌++◌, refl, ap, ◌∙◌, sym, subst, append-nil, append_assoc}
use Rattle.std.proofs.lemmas.Bool.{and_parts, and_from}
use Rattle.std.proofs.Math.Bool.{or-true}
use Rattle.std.specs.Prelude.{IsTrue, if◌then◌else◌}
use Rattle.std.specs.List.{list_any}
use Rattle.c_text.specs.Token.{PlainToken}
use Rattle.c_tree.specs.declared.kinds.Kind.{Kind}
use Rattle.c_tree.specs.declared.kinds.Kind.TheVariants as k
use Rattle.c_tree.specs.declared.terminals.Terminal.{Terminal}
use Rattle.c_tree.specs.declared.terminals.Terminal.TheVariants as t
use Rattle.c_tree.specs.Terminals.{terminal, same}
use Rattle.c_tree.specs.Trees.{PlainTree, PlainTrees, leaf, node, none, more, absent, written, all_written, trees}
use Rattle.c_tree.specs.Grammar.{Category, expression, file_specifiers, declarators, initialiser, block, else_part, file_item, Role, file_first, file_inline, inline_parameter, Slot, word, perhaps, stars, needed, optional, row, fine, wrong, file_types, at_file_scope, defines_function, is_named, is_a, are_in_row}
use Rattle.c_tree.specs.Places.{Place, inside, operand, operator, opened, in_texts, in_words, in_list, entered, separated_from, specifying, specified, declaring, declared, declarator_at, declarator_read, declarator_next, initialiser_next, initialiser_read, before_name, behind_name, in_brackets, parameters_next, parameters_read, behind_parameters, parameter_at, parameter_read, parameter_next, parameter_begins, parameter_typed, parameter_declared, Wording, wordings, goes_on, are_same, Flavour, object, definable, Naming, named, joined_naming, parameter_role, may_be_declared_so, may_be_defined_so, flavour_at, back, behind_first}
use Rattle.c_tree.proofs.Fits.{Aim, Yields, Closed, Fits, InRow, InWords, BehindOperand, BehindOpening, InList, Entered, SeparatedFrom, BehindDeclarators, DeclaratorNext, InitialiserNext, InitialiserRead, BeforeName, BehindName, ParametersNext, ParameterRead, ParameterNext, ParameterTyped}
use Rattle.c_tree.proofs.Wants.{Want, free, file_declarators, one_declarator, all_parameters, one_parameter, has_fit_declarator, is_fit, has_words, may_have_brackets, is_list_for, is_inline_list, is_named_so, Suits, is_ready}
use Rattle.c_tree.proofs.Keeping.{all_written-append}
use Rattle.c_tree.proofs.Rows.{leaf_first, same-refl, weaker, are_words-append, are_words_of-same}
use Rattle.c_tree.proofs.Fillers.{a_token, a_filler, definable_parameters, named_parameter, function_declarators}
use Rattle.c_tree.proofs.RowMoves
use Rattle.c_tree.proofs.RowMoves.{tidy-word, tidy-needed, word_last, needed_last}
use Rattle.c_tree.proofs.ExpressionMoves.{parenthesised, texts_end, entry_ends, entry_back}
use Rattle.c_tree.proofs.FileMoves.{declaration_ends, body_comes}
use Rattle.c_tree.proofs.Declarators.{plain_declarator}
use Rattle.c_tree.proofs.DeclaratorMoves.{the_name, name_ends, parentheses}
use Rattle.c_tree.proofs.DeclaratorMoves as in_declarators
use Rattle.c_tree.proofs.ParameterMoves as in_parameters
use Rattle.c_tree.proofs.ParameterMoves.{parameters_end, told_joined}
use Rattle.c_tree.proofs.PlacesLead.{joined_defined}

-- ---- texts of trees

mutual
  written-append : (tree : PlainTree) (front behind : List PlainToken) → written tree (front ++ behind) ≡ written tree front ++ behind
  written-append (leaf token) front behind = refl
  written-append (node kind parts) front behind = all_written-front parts front behind

  all_written-front : (parts : PlainTrees) (front behind : List PlainToken) → all_written parts (front ++ behind) ≡ all_written parts front ++ behind
  all_written-front none front behind = refl
  all_written-front (more part rest) front behind =
      ap (written part) (all_written-front rest front behind) ∙ written-append part (all_written rest front) behind

-- parts, and tokens that make a node of them that may stand where it began
pub record Completes (parts : List PlainTree) (aim : Aim) (want : Want) : Type 0 where
  pub ended : Place
  pub tree : PlainTree
  pub further : List PlainToken
  pub yields : Yields aim ended tree
  pub fit : IsTrue (is_fit want ended)
  pub text : (behind : List PlainToken) → written tree behind ≡ all_written (trees parts) (further ++ behind)

-- one more part, and then
with_part : (parts : List PlainTree) (aim : Aim) (want : Want) (part : PlainTree) → Completes (parts ++ part ∷ []) aim want → Completes parts aim want
with_part parts aim want part c =
    record {
      ended = c.ended;
      tree = c.tree;
      further = written part c.further;
      yields = c.yields;
      fit = c.fit;
      text = λ behind.
          c.text behind ∙ all_written-append parts part (c.further ++ behind)
          ∙ ap (all_written (trees parts)) (written-append part c.further behind);
    }

as_it_is :
    (parts : List PlainTree) (aim : Aim) (want : Want) (kind : Kind) (ended : Place) → Yields aim ended (node kind (trees parts))
    → IsTrue (is_fit want ended) → Completes parts aim want
as_it_is parts aim want kind ended y f =
    record { ended = ended; tree = node kind (trees parts); further = []; yields = y; fit = f; text = λ behind. refl }

-- a part that is left out
without_part : (parts : List PlainTree) (aim : Aim) (want : Want) → Completes (parts ++ absent ∷ []) aim want → Completes parts aim want
without_part parts aim want c = with_part parts aim want absent c

-- ---- nodes with a fixed list of parts

shut_before_nothing : (tree : PlainTree) → Closed t.Other tree
shut_before_nothing tree e = absurd cc

module _ (kind : Kind) (at : List Slot → Place)
    (fits : (coming : Terminal) (slots : List Slot) (aim : Aim) (parts : List PlainTree) → InRow coming kind at slots (Yields aim) parts
    → Fits coming (at slots) (Yields aim) parts)
    (stays : (slots : List Slot) (ended : Place) → back (at slots) ended ≡ at slots)
    (aim : Aim) (want : Want) (fit : (left : List Slot) → IsTrue (is_fit want (at left))) where
  pub row_completes : (slots : List Slot) (parts : List PlainTree) → InRow t.Other kind at slots (Yields aim) parts → IsTrue (has_words slots) → Completes parts aim want
  row_completes [] parts r h = as_it_is parts aim want kind (at []) (RowMoves.finish kind at fits stays t.Other aim parts r).yields (fit [])
  row_completes (word [] ∷ slots) parts r h = absurd cc
  row_completes (word (first ∷ rest) ∷ slots) parts r h =
      let token = (a_token first).token in
      let is : terminal token ≡ first = (a_token first).is in
      with_part parts aim want (leaf token)
      (row_completes slots (parts ++ leaf token ∷ [])
      (RowMoves.one_more kind at fits stays t.Other (word (first ∷ rest)) slots aim parts (leaf token) t.Other r
      (tidy-word kind (first ∷ rest) slots r.tidy) (word_last kind (first ∷ rest) slots r.tidy) (shut_before_nothing (leaf token))
      (λ trees a. leaf_first (word (first ∷ rest) ∷ slots) slots token first trees is
      (ap (λ x. if x || list_any (same first) rest then fine slots else wrong) (same-refl first)) a))
      h)
  row_completes (needed category ∷ slots) parts r h =
      let f = a_filler category in
      with_part parts aim want f.tree
      (row_completes slots (parts ++ f.tree ∷ [])
      (RowMoves.one_more kind at fits stays t.Other (needed category) slots aim parts f.tree t.Other r
      (tidy-needed kind category slots r.tidy).1 (needed_last kind category slots r.tidy) (shut_before_nothing f.tree)
      (λ trees a. and_from (is_a category f.tree) (are_in_row slots trees) f.is a))
      h)
  row_completes (optional else_part ∷ []) parts r h =
      without_part parts aim want
      (as_it_is (parts ++ absent ∷ []) aim want kind (at (optional else_part ∷ []))
      (RowMoves.finish_without kind at fits stays (optional else_part ∷ []) t.Other aim parts (λ e. cc) r.tidy r).yields (fit (optional else_part ∷ [])))
  row_completes (optional category ∷ word [] ∷ slots) parts r h = absurd cc
  row_completes (optional category ∷ word (first ∷ rest) ∷ slots) parts r h =
      without_part parts aim want
      (row_completes (word (first ∷ rest) ∷ slots) (parts ++ absent ∷ []) (RowMoves.one_absent kind at fits stays category (first ∷ rest) slots aim parts t.Other r) h)
  row_completes (optional category ∷ slots) parts r h = let e = r.tidy in absurd cc
  row_completes (perhaps terminals ∷ slots) parts r h = let e = r.tidy in absurd cc
  row_completes (stars ∷ slots) parts r h = let e = r.tidy in absurd cc

inside_completes :
    (kind : Kind) (slots : List Slot) (aim : Aim) (want : Want) (parts : List PlainTree) → InRow t.Other kind (inside kind) slots (Yields aim) parts
    → want ≡ free → IsTrue (has_words slots) → Completes parts aim want
inside_completes kind slots aim want parts r e h =
    row_completes kind (inside kind) (λ coming slots aim parts r. r) (λ slots ended. refl) aim want (λ left. ap (λ w. is_fit w (inside kind left)) e) slots parts r h

-- ---- expressions, words and lists

free_fit : (want : Want) (ended : Place) → want ≡ free → IsTrue (is_fit want ended)
free_fit want ended e = ap (λ w. is_fit w ended) e

operand_completes :
    (wanted own : ℕ) (aim : Aim) (want : Want) (parts : List PlainTree) → BehindOperand wanted own (Yields aim) parts → want ≡ free
    → Completes parts aim want
operand_completes wanted own aim want parts b e =
    record {
      ended = operator wanted own;
      tree = b.tree;
      further = [];
      yields = b.accepts (operator wanted own) b.tree (weaker wanted own b.tight b.tree b.read);
      fit = free_fit want (operator wanted own) e;
      text = λ behind. ap (λ l. all_written (trees l) behind) (sym b.alone);
    }

opened_completes :
    (wanted : ℕ) (aim : Aim) (want : Want) (parts : List PlainTree) → BehindOpening wanted (Yields aim) parts → want ≡ free → Completes parts aim want
opened_completes wanted aim want parts b e =
    let f = a_filler (expression 1) in
    with_part parts aim want f.tree
    (inside_completes k.Parenthesized (word (t.CloseParenthesis ∷ []) ∷ []) aim want (parts ++ f.tree ∷ [])
    (parenthesised wanted b.token aim parts b t.Other (operator 1 16) f.tree f.is (shut_before_nothing f.tree)) e refl)

are_same-refl : (words : List Terminal) → are_same words words ≡ true
are_same-refl [] = refl
are_same-refl (first ∷ words) = and_from (same first first) (are_same words words) (same-refl first) (are_same-refl words)

-- what goes on from words
pub record GoesOnAs (words : List Terminal) (lists : List (List Terminal)) : Type 0 where
  pub rest : List Terminal
  pub lawful : list_any (are_same (words ++ rest)) lists ≡ true

goes_on_as : (words full : List Terminal) → goes_on words full ≡ true → GoesOnAs words (full ∷ [])
goes_on_as [] full h = record { rest = full; lawful = ap (λ x. x || false) (are_same-refl full) }
goes_on_as (first ∷ words) [] h = absurd cc
goes_on_as (first ∷ words) (second ∷ full) h =
    let both = and_parts (same first second) (goes_on words full) h in
    let g = goes_on_as words full both.1 in
    record { rest = g.rest; lawful = ap (λ x. (x && are_same (words ++ g.rest) full) || false) both.0 ∙ g.lawful }

alone_lawful : (words full : List Terminal) → list_any (are_same words) (full ∷ []) ≡ true → are_same words full ≡ true
alone_lawful words full h = either_way (are_same words full) h
  where
    either_way : (x : Bool) → (x || false) ≡ true → x ≡ true
    either_way true h = refl
    either_way false h = h

goes_on_lists : (words : List Terminal) (lists : List (List Terminal)) → list_any (goes_on words) lists ≡ true → GoesOnAs words lists
goes_on_lists words [] h = absurd cc
goes_on_lists words (full ∷ lists) h = by_first (goes_on words full) refl h (λ later. goes_on_lists words lists later)
  where
    by_first :
        (x : Bool) → goes_on words full ≡ x → (x || list_any (goes_on words) lists) ≡ true → (list_any (goes_on words) lists ≡ true → GoesOnAs words lists)
        → GoesOnAs words (full ∷ lists)
    by_first true e h later =
        let g = goes_on_as words full e in
        record { rest = g.rest; lawful = ap (λ x. x || list_any (are_same (words ++ g.rest)) lists) (alone_lawful (words ++ g.rest) full g.lawful) }
    by_first false e h later =
        let g = later h in
        record { rest = g.rest; lawful = ap (λ x. are_same (words ++ g.rest) full || x) g.lawful ∙ or-true (are_same (words ++ g.rest) full) }

rest_of_words :
    (wording : Wording) (aim : Aim) (want : Want) → want ≡ free → (rest words : List Terminal) (parts : List PlainTree)
    → InWords wording words (Yields aim) parts → list_any (are_same (words ++ rest)) (wordings wording) ≡ true → Completes parts aim want
rest_of_words wording aim want e [] words parts r h =
    let lawful : list_any (are_same words) (wordings wording) ≡ true = ap (λ l. list_any (are_same l) (wordings wording)) (sym (append-nil words)) ∙ h in
    as_it_is parts aim want k.Specifiers (in_words wording words) (r.accepts words (trees parts) r.are lawful) (free_fit want (in_words wording words) e)
rest_of_words wording aim want e (first ∷ rest) words parts r h =
    let token = (a_token first).token in
    let is : terminal token ≡ first = (a_token first).is in
    with_part parts aim want (leaf token)
    (rest_of_words wording aim want e rest (words ++ first ∷ []) (parts ++ leaf token ∷ [])
    (record { are = are_words-append words parts token first is r.are; accepts = r.accepts })
    (ap (λ l. list_any (are_same l) (wordings wording)) (append_assoc words (first ∷ []) rest) ∙ h))

words_complete :
    (wording : Wording) (words : List Terminal) (aim : Aim) (want : Want) (parts : List PlainTree) → InWords wording words (Yields aim) parts → want ≡ free
    → list_any (goes_on words) (wordings wording) ≡ true → Completes parts aim want
words_complete wording words aim want parts r e h =
    let g = goes_on_lists words (wordings wording) h in rest_of_words wording aim want e g.rest words parts r g.lawful

list_completes :
    (kind : Kind) (category : Category) (aim : Aim) (want : Want) (parts : List PlainTree) → InList kind category (Yields aim) parts → want ≡ free
    → Completes parts aim want
list_completes kind category aim want parts r e =
    as_it_is parts aim want kind (in_list kind category)
    (subst (λ (l : List PlainTree). Yields aim (in_list kind category) (node kind (trees l))) (append-nil parts) (r.completes [] refl))
    (free_fit want (in_list kind category) e)

entered_completes :
    (kind : Kind) (category : Category) (aim : Aim) (want : Want) (parts : List PlainTree) → Entered kind category (Yields aim) parts → want ≡ free
    → Completes parts aim want
entered_completes kind category aim want parts r e =
    as_it_is parts aim want kind (entered kind category) (entry_ends kind category t.Other aim parts r).yields (free_fit want (entered kind category) e)

separated_completes :
    (kind : Kind) (category : Category) (aim : Aim) (want : Want) (parts : List PlainTree) → SeparatedFrom kind category (Yields aim) parts → want ≡ free
    → Completes parts aim want
separated_completes kind category aim want parts r e =
    let f = a_filler category in
    with_part parts aim want f.tree
    (entered_completes kind category aim want (parts ++ f.tree ∷ [])
    (entry_back kind category aim parts r t.Other (operator 1 16) f.tree f.is (shut_before_nothing f.tree)) e)

-- ---- declarations at file scope

specified_completes :
    (aim : Aim) (want : Want) (parts : List PlainTree) (tokens : PlainTrees) → parts ≡ node k.Specifiers tokens ∷ []
    → IsTrue (is_a file_specifiers (node k.Specifiers tokens))
    → ((ended : Place) (tree : PlainTree) → IsTrue (is_a file_item tree) → Yields aim ended tree) → want ≡ free → Completes parts aim want
specified_completes aim want parts tokens alone words accepts e =
    let d = function_declarators in
    let b = a_filler block in
    let specifiers : PlainTree = node k.Specifiers tokens in
    let all : PlainTrees = more specifiers (more d.tree (more b.tree none)) in
    let is : IsTrue (is_a file_item (node k.Function all)) =
    and_from (defines_function d.tree) (are_in_row (row k.Function) all) d.defines
    (and_from (is_a file_specifiers specifiers) (are_in_row (behind_first (row k.Function)) (more d.tree (more b.tree none))) words
    (and_from (is_a (declarators file_first) d.tree) (are_in_row (needed block ∷ []) (more b.tree none)) d.is (and_from (is_a block b.tree) true b.is refl))) in
    with_part parts aim want d.tree
    (with_part (parts ++ d.tree ∷ []) aim want b.tree
    (as_it_is ((parts ++ d.tree ∷ []) ++ b.tree ∷ []) aim want k.Function (inside k.Function [])
    (subst (λ (l : List PlainTree). Yields aim (inside k.Function []) (node k.Function (trees ((l ++ d.tree ∷ []) ++ b.tree ∷ [])))) (sym alone)
    (accepts (inside k.Function []) (node k.Function all) is))
    (free_fit want (inside k.Function []) e)))

declared_completes :
    (inline : Bool) (flavour : Flavour) (aim : Aim) (want : Want) (parts : List PlainTree) → BehindDeclarators inline flavour (Yields aim) parts → want ≡ free
    → (may_be_declared_so inline flavour || may_be_defined_so flavour) ≡ true → Completes parts aim want
declared_completes inline flavour aim want parts d e h = either_way (may_be_declared_so inline flavour) refl h
  where
    either_way : (x : Bool) → may_be_declared_so inline flavour ≡ x → (x || may_be_defined_so flavour) ≡ true → Completes parts aim want
    either_way true m h =
        let token = (a_token t.Semicolon).token in
        with_part parts aim want (leaf token)
        (inside_completes k.Declaration [] aim want (parts ++ leaf token ∷ [])
        (declaration_ends inline flavour token (a_token t.Semicolon).is aim parts d m t.Other) e refl)
    either_way false m h =
        let b = a_filler block in
        with_part parts aim want b.tree
        (inside_completes k.Function [] aim want (parts ++ b.tree ∷ [])
        (body_comes inline flavour aim parts d h t.Other (inside k.Block []) b.tree b.is (shut_before_nothing b.tree)) e refl)

-- ---- lists of declarators

list_fit :
    (role : Role) (want : Want) (ended : Place) → flavour_at ended ≡ object → IsTrue (not (is_inline_list want)) → IsTrue (is_list_for role want)
    → IsTrue (is_fit want ended)
list_fit role free ended o n l = refl
list_fit role (file_declarators false) ended o n l = ap (λ x. may_be_declared_so false x || may_be_defined_so x) o
list_fit role (file_declarators true) ended o n l = absurd cc
list_fit role (one_declarator other) ended o n l = absurd cc
list_fit role (all_parameters inline) ended o n l = absurd cc
list_fit role (one_parameter inline) ended o n l = absurd cc

declarator_next_completes :
    (role : Role) (aim : Aim) (want : Want) (parts : List PlainTree) → DeclaratorNext role (Yields aim) parts
    → IsTrue (is_list_for role want) → IsTrue (not (is_inline_list want)) → Completes parts aim want
declarator_next_completes role aim want parts d l n =
    let token = (a_token t.Name).token in
    let y = plain_declarator role [] token refl (a_token t.Name).is in
    let tree : PlainTree = node k.Declarator (more (leaf token) none) in
    let r = in_declarators.declarator_comes role aim parts d t.Other (behind_name role) tree y (shut_before_nothing tree) in
    with_part parts aim want tree
    (as_it_is (parts ++ tree ∷ []) aim want k.Declarators (declarator_read role object) r.finishes
    (list_fit role want (declarator_read role object) (in_declarators.later_is_object role object d.later) n l))

initialiser_read_completes :
    (role : Role) (aim : Aim) (want : Want) (parts : List PlainTree) → InitialiserRead role (Yields aim) parts
    → IsTrue (is_list_for role want) → IsTrue (not (is_inline_list want)) → Completes parts aim want
initialiser_read_completes role aim want parts d l n =
    as_it_is parts aim want k.Declarators (initialiser_read role)
    (subst (λ (l : List PlainTree). Yields aim (initialiser_read role) (node k.Declarators (trees l))) (append-nil parts)
    (d.completes (initialiser_read role) refl [] refl refl))
    (list_fit role want (initialiser_read role) refl n l)

initialiser_next_completes :
    (role : Role) (aim : Aim) (want : Want) (parts : List PlainTree) → InitialiserNext role (Yields aim) parts
    → IsTrue (is_list_for role want) → IsTrue (not (is_inline_list want)) → Completes parts aim want
initialiser_next_completes role aim want parts d l n =
    let f = a_filler initialiser in
    with_part parts aim want f.tree
    (initialiser_read_completes role aim want (parts ++ f.tree ∷ [])
    (in_declarators.initialiser_comes role aim parts d t.Other (operator 1 16) f.tree f.is (shut_before_nothing f.tree)) l n)

-- ---- declarators

one_fit : (want : Want) (role : Role) (ended : Place) → want ≡ one_declarator role → has_fit_declarator role ended ≡ true → IsTrue (is_fit want ended)
one_fit want role ended e h = ap (λ w. is_fit w ended) e ∙ h

parameters_complete :
    (role : Role) (aim : Aim) (want : Want) (parts : List PlainTree) → ParametersNext role (Yields aim) parts → want ≡ one_declarator role → at_file_scope role ≡ true
    → Completes parts aim want
parameters_complete role aim want parts p e f =
    let d = definable_parameters in
    let token = (a_token t.CloseParenthesis).token in
    with_part parts aim want d.tree
    (with_part (parts ++ d.tree ∷ []) aim want (leaf token)
    (as_it_is ((parts ++ d.tree ∷ []) ++ leaf token ∷ []) aim want k.FunctionDeclarator (behind_parameters definable)
    (subst (λ (l : List PlainTree). Yields aim (behind_parameters definable) (node k.FunctionDeclarator (trees l)))
    (sym (append_assoc parts (d.tree ∷ []) (leaf token ∷ [])))
    (p.full definable d.tree token (a_token t.CloseParenthesis).is d.is (λ m. d.definable)))
    (one_fit want role (behind_parameters definable) e (definable_fit role f))))
  where
    definable_fit : (role : Role) → at_file_scope role ≡ true → has_fit_declarator role (behind_parameters definable) ≡ true
    definable_fit file_inline f = refl
    definable_fit inline_parameter f = absurd cc
    definable_fit _ f = refl

name_completes :
    (role : Role) (aim : Aim) (want : Want) (parts : List PlainTree) → BehindName role (Yields aim) parts → want ≡ one_declarator role → Completes parts aim want
name_completes file_inline aim want parts b e =
    let token = (a_token t.OpenParenthesis).token in
    with_part parts aim want (leaf token)
    (parameters_complete file_inline aim want (parts ++ leaf token ∷ []) (parentheses file_inline token (a_token t.OpenParenthesis).is refl aim parts b) e refl)
name_completes inline_parameter aim want parts b e =
    as_it_is parts aim want k.Declarator (behind_name inline_parameter) (name_ends inline_parameter t.Other aim parts b).yields
    (one_fit want inline_parameter (behind_name inline_parameter) e refl)
name_completes role aim want parts b e =
    as_it_is parts aim want k.Declarator (behind_name role) (name_ends role t.Other aim parts b).yields (one_fit want role (behind_name role) e refl)

before_name_completes :
    (role : Role) (aim : Aim) (want : Want) (parts : List PlainTree) → BeforeName role (Yields aim) parts → want ≡ one_declarator role → Completes parts aim want
before_name_completes role aim want parts b e =
    let token = (a_token t.Name).token in
    with_part parts aim want (leaf token)
    (name_completes role aim want (parts ++ leaf token ∷ []) (the_name role token (a_token t.Name).is aim parts b) e)

brackets_fit : (role : Role) (has_name : Bool) (left : List Slot) → IsTrue (may_have_brackets role has_name) → has_fit_declarator role (in_brackets has_name left) ≡ true
brackets_fit file_inline has_name left h = absurd cc
brackets_fit inline_parameter true left h = refl
brackets_fit inline_parameter false left h = absurd cc
brackets_fit _ has_name left h = refl

brackets_complete :
    (has_name : Bool) (slots : List Slot) (role : Role) (aim : Aim) (want : Want) (parts : List PlainTree)
    → InRow t.Other k.ArrayDeclarator (in_brackets has_name) slots (Yields aim) parts → want ≡ one_declarator role → IsTrue (may_have_brackets role has_name)
    → IsTrue (has_words slots) → Completes parts aim want
brackets_complete has_name slots role aim want parts r e m h =
    row_completes k.ArrayDeclarator (in_brackets has_name) (λ coming slots aim parts r. r) (λ slots ended. refl) aim want
    (λ left. one_fit want role (in_brackets has_name left) e (brackets_fit role has_name left m)) slots parts r h

-- ---- parameters

parameter_read_completes :
    (inline : Bool) (naming : Naming) (aim : Aim) (want : Want) (parts : List PlainTree) → ParameterRead naming (Yields aim) parts
    → IsTrue (is_fit want (parameter_read inline naming)) → Completes parts aim want
parameter_read_completes inline naming aim want parts p h =
    as_it_is parts aim want k.Parameters (parameter_read inline naming) (parameters_end t.Other inline naming aim parts p).yields h

parameter_next_completes :
    (inline : Bool) (naming : Naming) (aim : Aim) (want : Want) (parts : List PlainTree) → ParameterNext naming (Yields aim) parts
    → want ≡ all_parameters inline → IsTrue (not inline || is_named_so naming) → Completes parts aim want
parameter_next_completes inline naming aim want parts p e n =
    let f = named_parameter in
    with_part parts aim want f.tree
    (parameter_read_completes inline (joined_naming (naming ∷ []) named) aim want (parts ++ f.tree ∷ [])
    (record {
      separated = p.separated f.tree f.is;
      tells = told_joined naming named parts f.tree p.tells (and_from (is_named f.tree) true f.named refl);
      accepts = p.accepts;
    })
    (ap (λ w. is_fit w (parameter_read inline (joined_naming (naming ∷ []) named))) e ∙ joined_defined inline naming named n (or-true (not inline))))

parameter_typed_completes :
    (inline lone : Bool) (aim : Aim) (want : Want) (parts : List PlainTree) → ParameterTyped lone (Yields aim) parts → want ≡ one_parameter inline
    → Completes parts aim want
parameter_typed_completes inline lone aim want parts p e =
    let token = (a_token t.Name).token in
    let y = plain_declarator (parameter_role inline) [] token refl (a_token t.Name).is in
    let tree : PlainTree = node k.Declarator (more (leaf token) none) in
    with_part parts aim want tree
    (as_it_is (parts ++ tree ∷ []) aim want k.Parameter (parameter_declared named)
    (in_parameters.declarator_comes inline lone aim parts p t.Other (behind_name (parameter_role inline)) tree y (shut_before_nothing tree))
    (ap (λ w. is_fit w (parameter_declared named)) e ∙ or-true (not inline)))

-- ---- each place

pub completes :
    (place : Place) (aim : Aim) (want : Want) (parts : List PlainTree) → Fits t.Other place (Yields aim) parts → Suits place want
    → is_ready place want ≡ true → Completes parts aim want
completes (inside kind slots) aim want parts f s r = inside_completes kind slots aim want parts f s.0 s.1
completes (operand wanted) aim want parts f s r = elim s [ ]
completes (operator wanted own) aim want parts f s r = operand_completes wanted own aim want parts f s
completes (opened wanted) aim want parts f s r = opened_completes wanted aim want parts f s
completes in_texts aim want parts f s r =
    as_it_is parts aim want k.Texts in_texts (texts_end t.Other (a_token t.Other).token aim parts f).yields (free_fit want in_texts s)
completes (in_words wording words) aim want parts f s r = words_complete wording words aim want parts f s.0 s.1
completes (in_list kind category) aim want parts f s r = list_completes kind category aim want parts f s
completes (entered kind category) aim want parts f s r = entered_completes kind category aim want parts f s
completes (separated_from kind category) aim want parts f s r = separated_completes kind category aim want parts f s
completes specifying aim want parts f s r = elim s [ ]
completes (specified by) aim want parts f s r =
    specified_completes aim want parts f.tokens f.alone (are_words_of-same file_types f.words f.tokens f.lawful f.are) f.accepts s
completes (declaring inline) aim want parts f s r = elim s [ ]
completes (declared inline flavour) aim want parts f s r = declared_completes inline flavour aim want parts f s r
completes (declarator_at role) aim want parts f s r = elim s [ ]
completes (declarator_read role flavour) aim want parts f s r = as_it_is parts aim want k.Declarators (declarator_read role flavour) f.finishes r
completes (declarator_next role) aim want parts f s r = declarator_next_completes role aim want parts f s.0 s.1
completes (initialiser_next role) aim want parts f s r = initialiser_next_completes role aim want parts f s.0 s.1
completes (initialiser_read role) aim want parts f s r = initialiser_read_completes role aim want parts f s.0 s.1
completes (before_name role starred) aim want parts f s r = before_name_completes role aim want parts f s
completes (behind_name role) aim want parts f s r = name_completes role aim want parts f s
completes (in_brackets has_name slots) aim want parts f s r = brackets_complete has_name slots s.0 aim want parts f s.1 s.2 s.3
completes (parameters_next role) aim want parts f s r = parameters_complete role aim want parts f s.0 s.1
completes (parameters_read role flavour) aim want parts f s r =
    let token = (a_token t.CloseParenthesis).token in
    with_part parts aim want (leaf token)
    (as_it_is (parts ++ leaf token ∷ []) aim want k.FunctionDeclarator (behind_parameters flavour) (f token (a_token t.CloseParenthesis).is) r)
completes (behind_parameters flavour) aim want parts f s r = as_it_is parts aim want k.FunctionDeclarator (behind_parameters flavour) f s
completes (parameter_at inline before) aim want parts f s r = elim s [ ]
completes (parameter_read inline naming) aim want parts f s r = parameter_read_completes inline naming aim want parts f r
completes (parameter_next inline naming) aim want parts f s r = parameter_next_completes inline naming aim want parts f s.0 s.1
completes (parameter_begins inline) aim want parts f s r = elim s [ ]
completes (parameter_typed inline lone) aim want parts f s r = parameter_typed_completes inline lone aim want parts f s
completes (parameter_declared naming) aim want parts f s r = as_it_is parts aim want k.Parameter (parameter_declared naming) f r
