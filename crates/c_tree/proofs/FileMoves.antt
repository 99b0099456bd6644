-- Steps in declarations at file scope and in lists of declarators.
use Rattle.std.proofs.Common.{◌≡◌, Bool, true, false, not, ◌&&◌, ◌||◌, List, [], ◌∷◌, ◌++◌, refl, ap, ◌∙◌, sym, subst}
use Rattle.std.proofs.lemmas.Bool.{and_parts, and_from, eqb-true}
use Rattle.std.specs.Prelude.{IsTrue, ◌==◌, if◌then◌else◌}
use Rattle.std.specs.List.{list_any}
use Rattle.c_text.specs.Token.{PlainToken}
use Rattle.c_tree.specs.declared.kinds.Kind.{Kind}
use Rattle.c_tree.specs.declared.kinds.Kind.TheVariants as k
use Rattle.c_tree.specs.declared.terminals.Terminal.{Terminal}
use Rattle.c_tree.specs.declared.terminals.Terminal.TheVariants as t
use Rattle.c_tree.specs.Terminals.{terminal, number, same}
use Rattle.c_tree.specs.Trees.{PlainTree, PlainTrees, leaf, node, none, more, trees}
use Rattle.c_tree.specs.Grammar.{file_specifiers, tag, declarators, declarator, block, file_item, Role, file_first, file_inline, Slot, word, needed, row, fine, is_kind, tag_words, file_types, are_words, is_inline, has_word, is_a, are_in_row, defines_function, may_be_declared, lacks_parameters, has_absent, may_follow_declarator}
use Rattle.c_tree.specs.Places.{Place, inside, specified, declaring, declared, declarator_at, Specified, by_tag, by_inline, by_others, Flavour, object, are_same, may_be_declared_so, may_be_defined_so, specified_move, declared_move, begins_declarator, begins_row, flavour_at, shifts, enters, fails, or_fails, around, behind_first}
use Rattle.c_tree.proofs.Fits.{Aim, plain, declarators_of_file, declarator_of, Yields, Awaits, InRow, Leaves, is_tidy, is_if, BehindSpecifiers, BehindDeclarators, Moves, is_first}
use Rattle.c_tree.proofs.Rows.{next_word, leaf_first, are_words_of-same}
use Rattle.c_tree.proofs.Beginnings.{begins_around}
use Rattle.c_tree.proofs.Declarators.{begins_declarator_good}
use Rattle.c_tree.proofs.Parts.{begins_part_good}
use Rattle.c_tree.proofs.RowMoves.{enters_or_fails}

-- ---- the words of a declaration

same_word : (wanted first second : Terminal) → same first second ≡ true → same wanted second ≡ same wanted first
same_word wanted first second h =
    let p : number first ≡ number second = eqb-true (number first) (number second) h in ap (λ n. number wanted == n) (sym p)

has_word-words : (wanted : Terminal) (words : List Terminal) (tokens : PlainTrees) → IsTrue (are_words words tokens) → has_word wanted tokens ≡ list_any (same wanted) words
has_word-words wanted [] none h = refl
has_word-words wanted [] (more first rest) h = absurd cc
has_word-words wanted (first ∷ words) none h = absurd cc
has_word-words wanted (first ∷ words) (more (leaf token) rest) h =
    let both = and_parts (same first (terminal token)) (are_words words rest) h in
    ap (λ x. x || has_word wanted rest) (same_word wanted first (terminal token) both.0)
    ∙ ap (λ x. same wanted first || x) (has_word-words wanted words rest both.1)
has_word-words wanted (first ∷ words) (more (node kind parts) rest) h = absurd cc

-- what the words of a tag are
tag_without_inline : (words : List Terminal) → are_same words tag_words ≡ true → list_any (same t.Inline) words ≡ false
tag_without_inline [] h = absurd cc
tag_without_inline (first ∷ []) h = let both = and_parts (same first t.Struct) false h in absurd cc
tag_without_inline (first ∷ second ∷ []) h =
    let one = and_parts (same first t.Struct) (same second t.Name && true) h in
    let two = and_parts (same second t.Name) true one.1 in
    let p : number first ≡ 35 = eqb-true (number first) 35 one.0 in
    let q : number second ≡ 0 = eqb-true (number second) 0 two.0 in
    ap (λ n. (38 == n) || ((38 == number second) || false)) p ∙ ap (λ n. (38 == n) || false) q
tag_without_inline (first ∷ second ∷ third ∷ rest) h =
    let one = and_parts (same first t.Struct) (same second t.Name && false) h in
    let two = and_parts (same second t.Name) false one.1 in absurd cc

-- what they are told by
told_by_tag : (words : List Terminal) (x y : Bool) → are_same words tag_words ≡ x → by_tag ≡ (if x then by_tag else (if y then by_inline else by_others)) → are_same words tag_words ≡ true
told_by_tag words true y e h = e
told_by_tag words false true e h = absurd cc
told_by_tag words false false e h = absurd cc

told_by_others :
    (words : List Terminal) (x y : Bool) → list_any (same t.Inline) words ≡ y
    → by_others ≡ (if x then by_tag else (if y then by_inline else by_others)) → list_any (same t.Inline) words ≡ false
told_by_others words true y e h = absurd cc
told_by_others words false true e h = absurd cc
told_by_others words false false e h = e

no_inline : (words : List Terminal) (tokens : PlainTrees) → IsTrue (are_words words tokens) → list_any (same t.Inline) words ≡ false → IsTrue (not (is_inline (node k.Specifiers tokens)))
no_inline words tokens a h = ap not (has_word-words t.Inline words tokens a ∙ h)

-- ---- behind the words

pub lacks_parameters-more :
    (tree : PlainTree) (rest : PlainTrees) → IsTrue (not (lacks_parameters (more tree none))) → IsTrue (not (lacks_parameters rest))
    → IsTrue (not (lacks_parameters (more tree rest)))
lacks_parameters-more (leaf token) rest a h = h
lacks_parameters-more (node kind parts) rest a h = neither (is_kind k.FunctionDeclarator kind && has_absent parts) (lacks_parameters rest) a h
  where
    neither : (x y : Bool) → not (x || false) ≡ true → not y ≡ true → not (x || y) ≡ true
    neither true y a h = absurd cc
    neither false y a h = h

module _ (aim : Aim) (parts : List PlainTree) where
  declarators_come :
      (inline : Bool) (by : Specified) (s : BehindSpecifiers by (Yields aim) parts)
      → (inline ≡ false → IsTrue (not (is_inline (node k.Specifiers s.tokens))))
      → Awaits (declaring inline) parts declarators_of_file aim
  declarators_come inline by s plainly coming ended tree y c =
      record {
        words = node k.Specifiers s.tokens;
        tree = tree;
        both = ap (λ l. l ++ tree ∷ []) s.alone;
        specify = are_words_of-same file_types s.words s.tokens s.lawful s.are;
        belong = y.belong;
        declare = λ e may. y.declare (node k.Specifiers s.tokens) (plainly e) may;
        define = y.define;
        accepts = s.accepts;
      }

-- the first declarator
first_declarator :
    (role : Role) → is_first role ≡ true → Awaits (declarator_at role) [] (declarator_of role) declarators_of_file
first_declarator file_first f coming ended tree y c =
    record {
      listed = refl;
      finishes =
          record {
            belong = and_from (is_a (declarator file_first) tree) true y.belongs refl;
            declare = λ words plainly may. alone words tree plainly (y.declares may);
            define = y.defines;
          };
      completes = λ may ended' same further h lacks.
          record {
            belong = and_from (is_a (declarator file_first) tree) (may_follow_declarator file_first (trees further)) y.belongs h;
            declare = λ words plainly may'.
                and_from (not (is_inline words)) (not (lacks_parameters (more tree (trees further)))) plainly
                (lacks_parameters-more tree (trees further) (y.declares may) lacks);
            define = λ d. absurd (no_definition ended' same d);
          };
    }
  where
    alone :
        (words tree : PlainTree) → IsTrue (not (is_inline words)) → IsTrue (not (lacks_parameters (more tree none)))
        → IsTrue (may_be_declared words (node k.Declarators (more tree none)))
    alone words tree a h = and_from (not (is_inline words)) (not (lacks_parameters (more tree none))) a h

    no_definition : (ended : Place) → flavour_at ended ≡ object → may_be_defined_so (flavour_at ended) ≡ true → ⊥
    no_definition ended same d = let e : may_be_defined_so object ≡ true = ap may_be_defined_so (sym same) ∙ d in cc
first_declarator file_inline f coming ended tree y c =
    record {
      listed = refl;
      finishes =
          record {
            belong = and_from (is_a (declarator file_first) tree) true y.belongs refl;
            declare = λ words plainly may.
                and_from (not (is_inline words)) (not (lacks_parameters (more tree none))) plainly (y.declares may);
            define = y.defines;
          };
      completes = λ may ended' same further h lacks. absurd cc;
    }
first_declarator _ f coming ended tree y c = absurd cc

-- `struct` and a name
tag_alone :
    (aim : Aim) (parts : List PlainTree) (s : BehindSpecifiers by_tag (Yields aim) parts)
    → IsTrue (is_a tag (node k.Specifiers s.tokens))
tag_alone aim parts s =
    let e = told_by_tag s.words (are_same s.words tag_words) (list_any (same t.Inline) s.words) refl s.specified in
    are_words_of-same (tag_words ∷ []) s.words s.tokens (ap (λ x. x || false) e) s.are

behind_tag :
    (kind : Kind) (terminals : List Terminal) (slots : List Slot) (token : PlainToken) (coming : Terminal) → terminal token ≡ coming
    → row kind ≡ needed tag ∷ word terminals ∷ slots → next_word (word terminals ∷ slots) coming ≡ fine slots
    → IsTrue (is_tidy kind slots) → IsTrue (not (is_kind k.Absent kind)) → is_if kind ≡ false
    → ((rest : PlainTrees) → IsTrue (are_in_row (row kind) rest) → IsTrue (is_a file_item (node kind rest)))
    → (aim : Aim) (parts : List PlainTree) → BehindSpecifiers by_tag (Yields aim) parts
    → ((after : Terminal) (tree : PlainTree) → Leaves after slots (tree ∷ leaf token ∷ []))
    → (after : Terminal) → InRow after kind (inside kind) slots (Yields aim) (parts ++ leaf token ∷ [])
behind_tag kind terminals slots token coming e same f tidy solid no_if belongs aim parts s leaves after =
    let words : PlainTree = node k.Specifiers s.tokens in
    subst (λ (l : List PlainTree). InRow after kind (inside kind) slots (Yields aim) (l ++ leaf token ∷ [])) (sym s.alone)
    (record {
      tidy = tidy;
      solid = solid;
      completes = λ left further h near.
          let second : IsTrue (are_in_row (word terminals ∷ slots) (more (leaf token) (trees further))) =
          leaf_first (word terminals ∷ slots) slots token coming (trees further) e f h in
          let all : IsTrue (are_in_row (row kind) (more words (more (leaf token) (trees further)))) =
          subst (λ (l : List Slot). IsTrue (are_in_row l (more words (more (leaf token) (trees further))))) (sym same)
          (and_from (is_a tag words) (are_in_row (word terminals ∷ slots) (more (leaf token) (trees further))) (tag_alone aim parts s) second) in
          s.accepts (inside kind left) (node kind (more words (more (leaf token) (trees further)))) (belongs (more words (more (leaf token) (trees further))) all);
      counts = λ i. absurd cc;
      leaves = leaves after words;
    })

declarators_begin :
    (role : Role) → is_first role ≡ true → (inline : Bool) (by : Specified) (place : Place) (coming : Terminal) (token : PlainToken) → terminal token ≡ coming
    → (aim : Aim) (parts : List PlainTree) (s : BehindSpecifiers by (Yields aim) parts)
    → (inline ≡ false → IsTrue (not (is_inline (node k.Specifiers s.tokens))))
    → Moves coming token place aim parts (or_fails (declaring inline) (around (declarator_at role) (begins_declarator role coming)))
declarators_begin role f inline by place coming token e aim parts s plainly =
    enters_or_fails coming token place (declaring inline) declarators_of_file aim parts (around (declarator_at role) (begins_declarator role coming))
    (declarators_come aim parts inline by s plainly)
    (begins_around token (declarator_at role) (begins_declarator role coming) (declarator_of role) declarators_of_file
    (first_declarator role f)
    (begins_declarator_good role coming token e (declarator_of role) (λ ended tree h. h)))

plain_by_tag : (aim : Aim) (parts : List PlainTree) (s : BehindSpecifiers by_tag (Yields aim) parts) → IsTrue (not (is_inline (node k.Specifiers s.tokens)))
plain_by_tag aim parts s =
    let e = told_by_tag s.words (are_same s.words tag_words) (list_any (same t.Inline) s.words) refl s.specified in
    no_inline s.words s.tokens s.are (tag_without_inline s.words e)

plain_by_others : (aim : Aim) (parts : List PlainTree) (s : BehindSpecifiers by_others (Yields aim) parts) → IsTrue (not (is_inline (node k.Specifiers s.tokens)))
plain_by_others aim parts s =
    no_inline s.words s.tokens s.are
    (told_by_others s.words (are_same s.words tag_words) (list_any (same t.Inline) s.words) refl s.specified)

pub specified_moves :
    (by : Specified) (coming : Terminal) (token : PlainToken) → terminal token ≡ coming → (aim : Aim) (parts : List PlainTree)
    → BehindSpecifiers by (Yields aim) parts → Moves coming token (specified by) aim parts (specified_move by coming)
specified_moves by_tag t.OpenBrace token e aim parts s =
    behind_tag k.StructDefinition (t.OpenBrace ∷ []) (behind_first (behind_first (row k.StructDefinition))) token t.OpenBrace e refl refl refl refl refl
    (λ rest h. h) aim parts s (λ after tree. tt)
specified_moves by_tag t.Semicolon token e aim parts s =
    behind_tag k.StructDeclaration (t.Semicolon ∷ []) [] token t.Semicolon e refl refl refl refl refl (λ rest h. h) aim parts s (λ after tree x. refl)
specified_moves by_inline coming token e aim parts s =
    declarators_begin file_inline refl true by_inline (specified by_inline) coming token e aim parts s (λ x. absurd cc)
specified_moves by_tag coming token e aim parts s =
    declarators_begin file_first refl false by_tag (specified by_tag) coming token e aim parts s (λ x. plain_by_tag aim parts s)
specified_moves by_others coming token e aim parts s =
    declarators_begin file_first refl false by_others (specified by_others) coming token e aim parts s (λ x. plain_by_others aim parts s)

-- ---- behind the declarators

plainly_declared : (inline : Bool) (flavour : Flavour) → may_be_declared_so inline flavour ≡ true → (inline ≡ false) × (may_be_declared_so false flavour ≡ true)
plainly_declared true flavour h = absurd cc
plainly_declared false flavour h = (refl, h)

pub declaration_ends :
    (inline : Bool) (flavour : Flavour) (token : PlainToken) → terminal token ≡ t.Semicolon → (aim : Aim) (parts : List PlainTree)
    → BehindDeclarators inline flavour (Yields aim) parts → may_be_declared_so inline flavour ≡ true
    → (after : Terminal) → InRow after k.Declaration (inside k.Declaration) [] (Yields aim) (parts ++ leaf token ∷ [])
declaration_ends inline flavour token e aim parts d may after =
    let plainly = plainly_declared inline flavour may in
    let declared_so : IsTrue (may_be_declared d.words d.tree) = d.declare plainly.0 plainly.1 in
    let last : IsTrue (are_in_row (word (t.Semicolon ∷ []) ∷ []) (more (leaf token) none)) =
    leaf_first (word (t.Semicolon ∷ []) ∷ []) [] token t.Semicolon none e refl refl in
    let all : IsTrue (is_a file_item (node k.Declaration (more d.words (more d.tree (more (leaf token) none))))) =
    and_from (may_be_declared d.words d.tree) (are_in_row (row k.Declaration) (more d.words (more d.tree (more (leaf token) none)))) declared_so
    (and_from (is_a file_specifiers d.words) (are_in_row (behind_first (row k.Declaration)) (more d.tree (more (leaf token) none))) d.specify
    (and_from (is_a (declarators file_first) d.tree) (are_in_row (word (t.Semicolon ∷ []) ∷ []) (more (leaf token) none)) d.belong last)) in
    subst (λ (l : List PlainTree). InRow after k.Declaration (inside k.Declaration) [] (Yields aim) (l ++ leaf token ∷ [])) (sym d.both)
    (record {
      tidy = refl;
      solid = refl;
      completes = λ left further h near. only_end left further h (d.accepts (inside k.Declaration left) (node k.Declaration (more d.words (more d.tree (more (leaf token) none)))) all);
      counts = λ i. absurd cc;
      leaves = λ x. refl;
    })
  where
    only_end :
        (left : List Slot) (further : List PlainTree) → IsTrue (are_in_row [] (trees further))
        → Yields aim (inside k.Declaration left) (node k.Declaration (trees (d.words ∷ d.tree ∷ leaf token ∷ [])))
        → Yields aim (inside k.Declaration left) (node k.Declaration (trees (d.words ∷ d.tree ∷ leaf token ∷ further)))
    only_end left [] h y = y
    only_end left (first ∷ rest) h y = absurd cc

pub body_comes :
    (inline : Bool) (flavour : Flavour) (aim : Aim) (parts : List PlainTree) → BehindDeclarators inline flavour (Yields aim) parts
    → may_be_defined_so flavour ≡ true → Awaits (inside k.Function []) parts (plain block) aim
body_comes inline flavour aim parts d may coming ended tree y c =
    let all : IsTrue (is_a file_item (node k.Function (more d.words (more d.tree (more tree none))))) =
    and_from (defines_function d.tree) (are_in_row (row k.Function) (more d.words (more d.tree (more tree none)))) (d.define may)
    (and_from (is_a file_specifiers d.words) (are_in_row (behind_first (row k.Function)) (more d.tree (more tree none))) d.specify
    (and_from (is_a (declarators file_first) d.tree) (are_in_row (needed block ∷ []) (more tree none)) d.belong (and_from (is_a block tree) true y refl))) in
    subst (λ (l : List PlainTree). InRow coming k.Function (inside k.Function) [] (Yields aim) (l ++ tree ∷ [])) (sym d.both)
    (record {
      tidy = refl;
      solid = refl;
      completes = λ left further h near. only_end left further h (d.accepts (inside k.Function left) (node k.Function (more d.words (more d.tree (more tree none)))) all);
      counts = λ i. absurd cc;
      leaves = c;
    })
  where
    only_end :
        (left : List Slot) (further : List PlainTree) → IsTrue (are_in_row [] (trees further))
        → Yields aim (inside k.Function left) (node k.Function (trees (d.words ∷ d.tree ∷ tree ∷ [])))
        → Yields aim (inside k.Function left) (node k.Function (trees (d.words ∷ d.tree ∷ tree ∷ further)))
    only_end left [] h y = y
    only_end left (first ∷ rest) h y = absurd cc

pub declared_moves :
    (coming : Terminal) (inline : Bool) (flavour : Flavour) (token : PlainToken) → terminal token ≡ coming → (aim : Aim) (parts : List PlainTree)
    → BehindDeclarators inline flavour (Yields aim) parts → Moves coming token (declared inline flavour) aim parts (declared_move inline flavour coming)
declared_moves t.Semicolon inline flavour token e aim parts d = where_it_may (may_be_declared_so inline flavour) refl
  where
    where_it_may :
        (x : Bool) → may_be_declared_so inline flavour ≡ x
        → Moves t.Semicolon token (declared inline flavour) aim parts (if x then shifts (inside k.Declaration []) else fails)
    where_it_may true h = declaration_ends inline flavour token e aim parts d h
    where_it_may false h = tt
declared_moves t.OpenBrace inline flavour token e aim parts d = where_it_may (may_be_defined_so flavour) refl
  where
    where_it_may :
        (x : Bool) → may_be_defined_so flavour ≡ x
        → Moves t.OpenBrace token (declared inline flavour) aim parts (if x then enters (inside k.Function []) (begins_row k.Block) else fails)
    where_it_may true h =
        record {
          inner = plain block;
          comes_back = body_comes inline flavour aim parts d h;
          more = begins_part_good block refl token t.OpenBrace e;
        }
    where_it_may false h = tt
declared_moves _ inline flavour token e aim parts d = tt
