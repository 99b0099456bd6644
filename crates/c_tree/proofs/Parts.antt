-- The parts that nodes need are known from their first tokens.
use Rattle.std.proofs.Common.{◌≡◌, true, false, not, ◌&&◌, List, [], ◌∷◌, refl, ap, sym, subst}
use Rattle.std.proofs.lemmas.Bool.{and_parts, and_from}
use Rattle.std.specs.Prelude.{IsTrue}
use Rattle.c_text.specs.Token.{PlainToken}
use Rattle.c_tree.specs.declared.kinds.Kind.{Kind}
use Rattle.c_tree.specs.declared.kinds.Kind.TheVariants as k
use Rattle.c_tree.specs.declared.terminals.Terminal.{Terminal}
use Rattle.c_tree.specs.declared.terminals.Terminal.TheVariants as t
use Rattle.c_tree.specs.Terminals.{terminal}
use Rattle.c_tree.specs.Trees.{PlainTree, PlainTrees, leaf, node, none, more, absent, trees}
use Rattle.c_tree.specs.Grammar.{Category, expression, arguments, cast_type, specifiers, file_specifiers, tag, declarators, declarator, abstract_declarator, parameters, parameter, initialiser, initialisers, statement, else_part, block, items, item, for_start, members, member, file_item, Role, local, member_of, Slot, word, needed, optional, row, fine, is_kind, is_a, is_word, are_in_row, are_each, are_separated, are_separated_or_ended, nearest_if, may_follow_declarator}
use Rattle.c_tree.specs.Places.{Place, inside, in_list, entered, specifying, declarator_at, words_at, type_wording, file_wording, may_end_with_comma, begins, around, behind_first, begins_words, begins_expression, begins_statement, begins_local, begins_item, begins_initialiser, begins_for, begins_declarator, begins_member, begins_part}
use Rattle.c_tree.proofs.Fits.{Aim, plain, words_of, declarator_of, Yields, Awaits, Begins, Leaves, is_tidy, is_if, is_readable, after_entry}
use Rattle.c_tree.proofs.Rows.{next_word, leaf_first, optional_first, initialiser_of, item_of}
use Rattle.c_tree.proofs.Beginnings.{Accepts, begins_around, begins_either, row_begins, begins_expression_good, begins_these_words, begins_specifiers, begins_cast_type}
use Rattle.c_tree.proofs.Declarators.{begins_declarator_good}

-- a node of a fixed list of parts, of which the first is to come
row_back :
    (kind : Kind) (slot : Slot) (slots : List Slot) (inner outer : Aim) → row kind ≡ slot ∷ slots
    → IsTrue (is_tidy kind slots) → IsTrue (not (is_kind k.Absent kind)) → is_if kind ≡ false
    → ((coming : Terminal) (tree : PlainTree) → Leaves coming slots (tree ∷ []))
    → ((ended : Place) (tree : PlainTree) (rest : PlainTrees) → Yields inner ended tree → IsTrue (are_in_row slots rest)
    → IsTrue (are_in_row (slot ∷ slots) (more tree rest)))
    → ((left : List Slot) (rest : PlainTrees) → IsTrue (are_in_row (row kind) rest) → Yields outer (inside kind left) (node kind rest))
    → Awaits (inside kind slots) [] inner outer
row_back kind slot slots inner outer same tidy solid no_if leaves joins accepts coming ended tree y c =
    record {
      tidy = tidy;
      solid = solid;
      completes = λ left further h near.
          let all : IsTrue (are_in_row (row kind) (more tree (trees further))) =
          subst (λ (l : List Slot). IsTrue (are_in_row l (more tree (trees further)))) (sym same) (joins ended tree (trees further) y h) in
          accepts left (more tree (trees further)) all;
      counts = λ i. absurd cc;
      leaves = leaves coming tree;
    }

-- ---- statements

module _ (token : PlainToken) (aim : Aim) (accepts : Accepts statement aim) where
  statement_row :
      (kind : Kind) (slots : List Slot) (coming : Terminal) → terminal token ≡ coming
      → next_word (row kind) coming ≡ fine slots → IsTrue (is_tidy kind slots) → IsTrue (not (is_kind k.Absent kind)) → is_if kind ≡ false
      → ((after : Terminal) → Leaves after slots (leaf token ∷ []))
      → ((rest : PlainTrees) → IsTrue (are_in_row (row kind) rest) → IsTrue (is_a statement (node kind rest)))
      → Begins token (begins [] false (inside kind slots)) aim
  statement_row kind slots coming e f tidy solid no_if leaves belongs =
      row_begins kind slots token coming e f tidy solid (λ i. absurd cc) leaves aim
      (λ left rest h near. accepts (inside kind left) (node kind rest) (belongs rest h))

  lone_semicolon : terminal token ≡ t.Semicolon → Begins token (begins [] true (inside k.ExpressionStatement [])) aim
  lone_semicolon e coming =
      record {
        tidy = refl;
        solid = refl;
        completes = λ left further h near.
            accepts (inside k.ExpressionStatement left) (node k.ExpressionStatement (more absent (more (leaf token) (trees further))))
            (leaf_first (word (t.Semicolon ∷ []) ∷ []) [] token t.Semicolon (trees further) e refl h);
        counts = λ i. absurd cc;
        leaves = λ i. refl;
      }

  pub begins_statement_good : (kind : Terminal) → terminal token ≡ kind → Begins token (begins_statement kind) aim
  begins_statement_good t.OpenBrace e = statement_row k.Block (behind_first (row k.Block)) t.OpenBrace e refl refl refl refl (λ coming. tt) (λ rest h. h)
  begins_statement_good t.Semicolon e = lone_semicolon e
  begins_statement_good t.If e =
      row_begins k.If (behind_first (row k.If)) token t.If e refl refl refl (λ i. refl) (λ coming. tt) aim
      (λ left rest h near. accepts (inside k.If left) (node k.If rest) (and_from (nearest_if rest) (are_in_row (row k.If) rest) (near refl) h))
  begins_statement_good t.While e = statement_row k.While (behind_first (row k.While)) t.While e refl refl refl refl (λ coming. tt) (λ rest h. h)
  begins_statement_good t.Do e = statement_row k.Do (behind_first (row k.Do)) t.Do e refl refl refl refl (λ coming. tt) (λ rest h. h)
  begins_statement_good t.For e = statement_row k.For (behind_first (row k.For)) t.For e refl refl refl refl (λ coming. tt) (λ rest h. h)
  begins_statement_good t.Jump e = statement_row k.Jump (behind_first (row k.Jump)) t.Jump e refl refl refl refl (λ coming. tt) (λ rest h. h)
  begins_statement_good t.Return e = statement_row k.Return (behind_first (row k.Return)) t.Return e refl refl refl refl (λ coming. tt) (λ rest h. h)
  begins_statement_good kind e =
      begins_around token (inside k.ExpressionStatement (behind_first (row k.ExpressionStatement))) (begins_expression 1 kind) (plain (expression 1)) aim
      (row_back k.ExpressionStatement (optional (expression 1)) (word (t.Semicolon ∷ []) ∷ []) (plain (expression 1)) aim refl refl refl refl (λ coming tree. tt)
      (λ ended tree rest y h. optional_first (expression 1) (word (t.Semicolon ∷ []) ∷ []) tree rest y h)
      (λ left rest h. accepts (inside k.ExpressionStatement left) (node k.ExpressionStatement rest) h))
      (begins_expression_good 1 refl token (plain (expression 1)) (λ ended tree h. h) kind e)

-- ---- declarations in blocks and structs

begins_local_good :
    (token : PlainToken) (aim : Aim)
    → ((left : List Slot) (rest : PlainTrees) → IsTrue (are_in_row (row k.LocalDeclaration) rest) → Yields aim (inside k.LocalDeclaration left) (node k.LocalDeclaration rest))
    → (kind : Terminal) → terminal token ≡ kind → Begins token (begins_local kind) aim
begins_local_good token aim accepts kind e =
    begins_around token (inside k.LocalDeclaration (behind_first (row k.LocalDeclaration))) (begins_words type_wording kind) (plain specifiers) aim
    (row_back k.LocalDeclaration (needed specifiers) (behind_first (row k.LocalDeclaration)) (plain specifiers) aim refl refl refl refl (λ coming tree. tt)
    (λ ended tree rest y h. and_from (is_a specifiers tree) (are_in_row (behind_first (row k.LocalDeclaration)) rest) y h) accepts)
    (begins_specifiers token kind e)

begins_member_good : (token : PlainToken) (kind : Terminal) → terminal token ≡ kind → Begins token (begins_member kind) (plain member)
begins_member_good token kind e =
    begins_around token (inside k.Member (behind_first (row k.Member))) (begins_words type_wording kind) (plain specifiers) (plain member)
    (row_back k.Member (needed specifiers) (behind_first (row k.Member)) (plain specifiers) (plain member) refl refl refl refl (λ coming tree. tt)
    (λ ended tree rest y h. and_from (is_a specifiers tree) (are_in_row (behind_first (row k.Member)) rest) y h) (λ left rest h. h))
    (begins_specifiers token kind e)

begins_item_good : (token : PlainToken) (kind : Terminal) → terminal token ≡ kind → Begins token (begins_item kind) (plain item)
begins_item_good token kind e =
    begins_either token (begins_local kind) (begins_statement kind) (plain item)
    (begins_local_good token (plain item) (λ left rest h. h) kind e)
    (begins_statement_good token (plain item) (λ ended tree h. item_of tree h) kind e)

begins_for_good : (token : PlainToken) (kind : Terminal) → terminal token ≡ kind → Begins token (begins_for kind) (plain for_start)
begins_for_good token t.Semicolon e = λ coming.
    record {
      tidy = refl;
      solid = refl;
      completes = λ left further h near. leaf_first (word (t.Semicolon ∷ []) ∷ []) [] token t.Semicolon (trees further) e refl h;
      counts = λ i. absurd cc;
      leaves = λ i. refl;
    }
begins_for_good token kind e =
    begins_either token (begins_local kind) (around (inside k.ForStart (behind_first (row k.ForStart))) (begins_expression 1 kind)) (plain for_start)
    (begins_local_good token (plain for_start) (λ left rest h. h) kind e)
    (begins_around token (inside k.ForStart (behind_first (row k.ForStart))) (begins_expression 1 kind) (plain (expression 1)) (plain for_start)
    (row_back k.ForStart (optional (expression 1)) (word (t.Semicolon ∷ []) ∷ []) (plain (expression 1)) (plain for_start) refl refl refl refl (λ coming tree. tt)
    (λ ended tree rest y h. optional_first (expression 1) (word (t.Semicolon ∷ []) ∷ []) tree rest y h) (λ left rest h. h))
    (begins_expression_good 1 refl token (plain (expression 1)) (λ ended tree h. h) kind e))

-- ---- initialisers

pub begins_initialiser_good : (token : PlainToken) (kind : Terminal) → terminal token ≡ kind → Begins token (begins_initialiser kind) (plain initialiser)
begins_initialiser_good token t.OpenBrace e =
    row_begins k.Braces (behind_first (row k.Braces)) token t.OpenBrace e refl refl refl (λ i. absurd cc) (λ coming. tt) (plain initialiser) (λ left rest h near. h)
begins_initialiser_good token kind e =
    begins_expression_good 1 refl token (plain initialiser) (λ ended tree h. initialiser_of tree h) kind e

-- ---- lists

-- an entry and what may come behind it
separated_entry :
    (kind : Kind) (category : Category) (tree : PlainTree) (rest : PlainTrees) → may_end_with_comma kind ≡ false
    → IsTrue (is_a category tree) → IsTrue (after_entry kind category rest) → IsTrue (are_separated category (more tree rest))
separated_entry kind category tree none bare h a = h
separated_entry kind category tree (more comma none) bare h a =
    let both = and_parts (may_end_with_comma kind) (is_word (t.Comma ∷ []) comma) a in absurd cc
separated_entry kind category tree (more comma (more second rest)) bare h a =
    let all = and_parts (is_word (t.Comma ∷ []) comma) (is_a category second && after_entry kind category rest) a in
    let behind = and_parts (is_a category second) (after_entry kind category rest) all.1 in
    and_from (is_a category tree && is_word (t.Comma ∷ []) comma) (are_separated category (more second rest))
    (and_from (is_a category tree) (is_word (t.Comma ∷ []) comma) h all.0)
    (separated_entry kind category second rest bare behind.0 behind.1)

ended_entry :
    (kind : Kind) (category : Category) (tree : PlainTree) (rest : PlainTrees)
    → IsTrue (is_a category tree) → IsTrue (after_entry kind category rest) → IsTrue (are_separated_or_ended category (more tree rest))
ended_entry kind category tree none h a = h
ended_entry kind category tree (more comma none) h a =
    let both = and_parts (may_end_with_comma kind) (is_word (t.Comma ∷ []) comma) a in
    and_from (is_a category tree) (is_word (t.Comma ∷ []) comma) h both.1
ended_entry kind category tree (more comma (more second rest)) h a =
    let all = and_parts (is_word (t.Comma ∷ []) comma) (is_a category second && after_entry kind category rest) a in
    let behind = and_parts (is_a category second) (after_entry kind category rest) all.1 in
    and_from (is_a category tree && is_word (t.Comma ∷ []) comma) (are_separated_or_ended category (more second rest))
    (and_from (is_a category tree) (is_word (t.Comma ∷ []) comma) h all.0)
    (ended_entry kind category second rest behind.0 behind.1)

arguments_back : Awaits (entered k.Arguments (expression 1)) [] (plain (expression 1)) (plain arguments)
arguments_back coming ended tree y c =
    record {
      readable = refl;
      shut = refl;
      completes = λ ended further h. separated_entry k.Arguments (expression 1) tree (trees further) refl y h;
    }

initialisers_back : Awaits (entered k.Initialisers initialiser) [] (plain initialiser) (plain initialisers)
initialisers_back coming ended tree y c =
    record {
      readable = refl;
      shut = refl;
      completes = λ ended further h. ended_entry k.Initialisers initialiser tree (trees further) y h;
    }

items_back : Awaits (in_list k.Items item) [] (plain item) (plain items)
items_back coming ended tree y c =
    record {
      readable = refl;
      shut = refl;
      completes = λ further h.
          and_from (is_a item tree && are_each item (trees further)) true (and_from (is_a item tree) (are_each item (trees further)) y h) refl;
    }

members_back : Awaits (in_list k.Members member) [] (plain member) (plain members)
members_back coming ended tree y c =
    record {
      readable = refl;
      shut = refl;
      completes = λ further h.
          and_from (is_a member tree && are_each member (trees further)) true (and_from (is_a member tree) (are_each member (trees further)) y h) refl;
    }

-- ---- declarators that aren't at file scope, and declarations at file scope

declarators_back : (role : Role) → is_readable (declarators role) ≡ true → Awaits (declarator_at role) [] (declarator_of role) (plain (declarators role))
declarators_back local r coming ended tree y c =
    record {
      listed = refl;
      finishes = and_from (is_a (declarator local) tree) true y.belongs refl;
      completes = λ may ended same further h lacks. and_from (is_a (declarator local) tree) (may_follow_declarator local (trees further)) y.belongs h;
    }
declarators_back member_of r coming ended tree y c =
    record {
      listed = refl;
      finishes = and_from (is_a (declarator member_of) tree) true y.belongs refl;
      completes = λ may ended same further h lacks.
          and_from (is_a (declarator member_of) tree) (may_follow_declarator member_of (trees further)) y.belongs h;
    }
declarators_back _ r coming ended tree y c = absurd cc

specifying_back : Awaits specifying [] (words_of file_wording) (plain file_item)
specifying_back coming ended tree y c =
    record {
      words = words_at ended;
      tokens = y.parts;
      alone = ap (λ x. x ∷ []) y.node;
      are = y.words;
      lawful = y.lawful;
      specified = refl;
      accepts = λ ended tree h. h;
    }

-- ---- an `else`, a block

begins_else_good : (token : PlainToken) (kind : Terminal) → terminal token ≡ kind → Begins token (begins_part else_part kind) (plain else_part)
begins_else_good token t.Else e =
    row_begins k.Else (behind_first (row k.Else)) token t.Else e refl refl refl (λ i. absurd cc) (λ coming. tt) (plain else_part) (λ left rest h near. h)
begins_else_good token _ e = tt

pub begins_block_good : (token : PlainToken) (kind : Terminal) → terminal token ≡ kind → Begins token (begins_part block kind) (plain block)
begins_block_good token t.OpenBrace e =
    row_begins k.Block (behind_first (row k.Block)) token t.OpenBrace e refl refl refl (λ i. absurd cc) (λ coming. tt) (plain block) (λ left rest h near. h)
begins_block_good token _ e = tt

-- ---- each category

pub begins_part_good :
    (category : Category) → IsTrue (is_readable category) → (token : PlainToken) (kind : Terminal) → terminal token ≡ kind
    → Begins token (begins_part category kind) (plain category)
begins_part_good (expression wanted) r token kind e =
    begins_expression_good wanted r token (plain (expression wanted)) (λ ended tree h. h) kind e
begins_part_good arguments r token kind e =
    begins_around token (entered k.Arguments (expression 1)) (begins_expression 1 kind) (plain (expression 1)) (plain arguments) arguments_back
    (begins_expression_good 1 refl token (plain (expression 1)) (λ ended tree h. h) kind e)
begins_part_good cast_type r token kind e = begins_cast_type token kind e
begins_part_good specifiers r token kind e = begins_specifiers token kind e
begins_part_good file_specifiers r token kind e = tt
begins_part_good tag r token kind e = tt
begins_part_good (declarators role) r token kind e =
    begins_around token (declarator_at role) (begins_declarator role kind) (declarator_of role) (plain (declarators role)) (declarators_back role r)
    (begins_declarator_good role kind token e (declarator_of role) (λ ended tree h. h))
begins_part_good (declarator role) r token kind e = tt
begins_part_good abstract_declarator r token kind e = tt
begins_part_good parameters r token kind e = tt
begins_part_good parameter r token kind e = tt
begins_part_good initialiser r token kind e = begins_initialiser_good token kind e
begins_part_good initialisers r token kind e =
    begins_around token (entered k.Initialisers initialiser) (begins_initialiser kind) (plain initialiser) (plain initialisers) initialisers_back
    (begins_initialiser_good token kind e)
begins_part_good statement r token kind e = begins_statement_good token (plain statement) (λ ended tree h. h) kind e
begins_part_good else_part r token kind e = begins_else_good token kind e
begins_part_good block r token kind e = begins_block_good token kind e
begins_part_good items r token kind e =
    begins_around token (in_list k.Items item) (begins_item kind) (plain item) (plain items) items_back (begins_item_good token kind e)
begins_part_good item r token kind e = begins_item_good token kind e
begins_part_good for_start r token kind e = begins_for_good token kind e
begins_part_good members r token kind e =
    begins_around token (in_list k.Members member) (begins_member kind) (plain member) (plain members) members_back (begins_member_good token kind e)
begins_part_good member r token kind e = begins_member_good token kind e
begins_part_good file_item r token kind e =
    begins_around token specifying (begins_words file_wording kind) (words_of file_wording) (plain file_item) specifying_back
    (begins_these_words file_wording token kind e)
