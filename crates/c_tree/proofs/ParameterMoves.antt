-- Steps in parameters.
use Rattle.std.proofs.Common.{◌≡◌, Bool, true, false, not, ◌&&◌, ◌||◌, List, [], ◌∷◌, ◌++◌, refl, ap, ◌∙◌, sym, subst, append_assoc}
use Rattle.std.proofs.lemmas.Bool.{and_parts, and_from}
use Rattle.std.proofs.Math.Bool.{or-true}
use Rattle.std.specs.Prelude.{IsTrue, if◌then◌else◌}
use Rattle.c_text.specs.Token.{PlainToken}
use Rattle.c_tree.specs.declared.kinds.Kind.TheVariants as k
use Rattle.c_tree.specs.declared.terminals.Terminal.{Terminal}
use Rattle.c_tree.specs.declared.terminals.Terminal.TheVariants as t
use Rattle.c_tree.specs.Terminals.{terminal, is_one_of}
use Rattle.c_tree.specs.Trees.{PlainTree, PlainTrees, leaf, node, none, more, absent, trees}
use Rattle.c_tree.specs.Grammar.{Category, specifiers, abstract_declarator, parameter, Role, optional, types, are_words, is_named, all_named, is_lone_void, may_be_defined, is_a, is_word, are_in_row, are_separated}
use Rattle.c_tree.specs.Places.{parameters_next, parameters_read, behind_parameters, parameter_at, parameter_read, parameter_next, parameter_begins, parameter_typed, parameter_declared, Flavour, empty, Naming, lone_void, named, unnamed, is_inline_role, is_later, may_be_defined_so, may_go_on, flavour_of, flavour_at, naming_at, words_at, joined_naming, type_wording, parameter_role, parameters_next_move, parameters_read_move, parameter_read_move, parameter_typed_move, begins_words, begins_parameter, begins_declarator, shifts, skips, finishes, fails, around, move}
use Rattle.c_tree.proofs.Fits.{Aim, words_of, declarator_of, the_parameters, a_parameter, Yields, Tells, Awaits, Begins, Fits, ParametersNext, ParameterRead, ParameterNext, ParameterTyped, Finishes, Moves, category_of}
use Rattle.c_tree.proofs.Rows.{optional_first, are_words-same, are_words_of-same}
use Rattle.c_tree.proofs.Beginnings.{begins_around, begins_these_words}
use Rattle.c_tree.proofs.Declarators.{begins_declarator_good}
use Rattle.c_tree.proofs.RowMoves.{enters_or_fails, enters_or_skips}

-- ---- how a parameter begins

specifiers_come : (inline : Bool) → Awaits (parameter_begins inline) [] (words_of type_wording) a_parameter
specifiers_come inline coming ended tree y c =
    record {
      tokens = y.parts;
      alone = ap (λ x. x ∷ []) y.node;
      specify = are_words_of-same types (words_at ended) y.parts y.lawful y.words;
      void = λ e. are_words-same (words_at ended) (t.Void ∷ []) y.parts e y.words;
      accepts = λ ended tree h. h;
    }

begins_parameter_good :
    (inline : Bool) (token : PlainToken) (kind : Terminal) → terminal token ≡ kind → Begins token (begins_parameter inline kind) a_parameter
begins_parameter_good inline token kind e =
    begins_around token (parameter_begins inline) (begins_words type_wording kind) (words_of type_wording) a_parameter (specifiers_come inline)
    (begins_these_words type_wording token kind e)

-- ---- in the parentheses of a declarator

first_parameter : (inline : Bool) → Awaits (parameter_at inline []) [] a_parameter the_parameters
first_parameter inline coming ended tree y c = record { separated = y.belongs; tells = y.tells; accepts = λ ended tree h. h }

parameters_come :
    (role : Role) (aim : Aim) (parts : List PlainTree) → ParametersNext role (Yields aim) parts
    → Awaits (parameters_read role empty) parts the_parameters aim
parameters_come role aim parts p coming ended tree y c close e =
    subst (λ (l : List PlainTree). Yields aim (behind_parameters (flavour_at ended)) (node k.FunctionDeclarator (trees l)))
    (sym (append_assoc parts (tree ∷ []) (leaf close ∷ [])))
    (p.full (flavour_at ended) tree close e y.belong y.define)

pub parameters_next_moves :
    (role : Role) (coming : Terminal) (token : PlainToken) → terminal token ≡ coming → (aim : Aim) (parts : List PlainTree)
    → ParametersNext role (Yields aim) parts → Moves coming token (parameters_next role) aim parts (parameters_next_move role coming)
parameters_next_moves role t.CloseParenthesis token e aim parts p = where_it_may (is_later role) refl
  where
    where_it_may :
        (x : Bool) → is_later role ≡ x
        → Moves t.CloseParenthesis token (parameters_next role) aim parts (if x then fails else skips (shifts (behind_parameters empty)))
    where_it_may true h = tt
    where_it_may false h = λ after.
        subst (λ (l : List PlainTree). Yields aim (behind_parameters empty) (node k.FunctionDeclarator (trees l)))
        (sym (append_assoc parts (absent ∷ []) (leaf token ∷ [])))
        (p.lacking h token e)
parameters_next_moves role coming token e aim parts p =
    enters_or_fails coming token (parameters_next role) (parameters_read role empty) the_parameters aim parts
    (around (parameter_at (is_inline_role role) []) (begins_parameter (is_inline_role role) coming)) (parameters_come role aim parts p)
    (begins_around token (parameter_at (is_inline_role role) []) (begins_parameter (is_inline_role role) coming) a_parameter the_parameters
    (first_parameter (is_inline_role role)) (begins_parameter_good (is_inline_role role) token coming e))

pub parameters_read_moves :
    (coming : Terminal) (role : Role) (flavour : Flavour) (token : PlainToken) → terminal token ≡ coming → (aim : Aim) (parts : List PlainTree)
    → Fits coming (parameters_read role flavour) (Yields aim) parts
    → Moves coming token (parameters_read role flavour) aim parts (parameters_read_move role flavour coming)
parameters_read_moves t.CloseParenthesis role flavour token e aim parts p = where_it_may (is_inline_role role && not (may_be_defined_so flavour))
  where
    where_it_may :
        (x : Bool) → Moves t.CloseParenthesis token (parameters_read role flavour) aim parts (if x then fails else shifts (behind_parameters flavour))
    where_it_may true = tt
    where_it_may false = λ after. p token e
parameters_read_moves _ role flavour token e aim parts p = tt

-- ---- in a list of parameters

separated-comma :
    (parts : List PlainTree) (comma tree : PlainTree) → IsTrue (are_separated parameter (trees parts)) → IsTrue (is_word (t.Comma ∷ []) comma)
    → IsTrue (is_a parameter tree) → IsTrue (are_separated parameter (trees ((parts ++ comma ∷ []) ++ tree ∷ [])))
separated-comma [] comma tree s c h = absurd cc
separated-comma (first ∷ []) comma tree s c h =
    and_from (is_a parameter first && is_word (t.Comma ∷ []) comma) (is_a parameter tree)
    (and_from (is_a parameter first) (is_word (t.Comma ∷ []) comma) s c) h
separated-comma (first ∷ second ∷ []) comma tree s c h = let both = and_parts (is_a parameter first && is_word (t.Comma ∷ []) second) false s in absurd cc
separated-comma (first ∷ second ∷ third ∷ rest) comma tree s c h =
    let both = and_parts (is_a parameter first && is_word (t.Comma ∷ []) second) (are_separated parameter (trees (third ∷ rest))) s in
    and_from (is_a parameter first && is_word (t.Comma ∷ []) second) (are_separated parameter (trees (((third ∷ rest) ++ comma ∷ []) ++ tree ∷ [])))
    both.0 (separated-comma (third ∷ rest) comma tree both.1 c h)

all_named-append :
    (parts : List PlainTree) (tree : PlainTree) → IsTrue (all_named (trees parts)) → IsTrue (is_named tree) → IsTrue (all_named (trees (parts ++ tree ∷ [])))
all_named-append [] tree a n = and_from (is_named tree) true n refl
all_named-append (first ∷ parts) tree a n =
    let both = and_parts (is_named first) (all_named (trees parts)) a in
    and_from (is_named first) (all_named (trees (parts ++ tree ∷ []))) both.0 (all_named-append parts tree both.1 n)

told_named : (naming : Naming) (parts : PlainTrees) → naming ≡ named → Tells naming parts → IsTrue (all_named parts)
told_named named parts e h = h
told_named lone_void parts e h = absurd cc
told_named unnamed parts e h = absurd cc

next_parameter :
    (naming : Naming) (token : PlainToken) → terminal token ≡ t.Comma → (aim : Aim) (parts : List PlainTree)
    → ParameterRead naming (Yields aim) parts → ParameterNext naming (Yields aim) (parts ++ leaf token ∷ [])
next_parameter naming token e aim parts p =
    record {
      separated = λ tree h. separated-comma parts (leaf token) tree p.separated (ap (is_one_of (t.Comma ∷ [])) e) h;
      tells = λ n tree h.
          all_named-append (parts ++ leaf token ∷ []) tree (all_named-append parts (leaf token) (told_named naming (trees parts) n p.tells) refl) h;
      accepts = p.accepts;
    }

defined_so :
    (naming : Naming) (parts : PlainTrees) → Tells naming parts → IsTrue (may_be_defined_so (flavour_of naming)) → IsTrue (may_be_defined (more (node k.Parameters parts) none))
defined_so lone_void parts h d = ap (λ x. (x || all_named parts) && true) h
defined_so named parts h d = ap (λ x. (is_lone_void parts || x) && true) h ∙ ap (λ x. x && true) (or-true (is_lone_void parts))
defined_so unnamed parts h d = absurd cc

pub parameters_end :
    (coming : Terminal) (inline : Bool) (naming : Naming) (aim : Aim) (parts : List PlainTree) → ParameterRead naming (Yields aim) parts
    → Finishes coming (parameter_read inline naming) aim (node k.Parameters (trees parts))
parameters_end coming inline naming aim parts p =
    record {
      yields =
          p.accepts (parameter_read inline naming) (node k.Parameters (trees parts))
          (record { belong = p.separated; define = defined_so naming (trees parts) p.tells });
      closed = λ x. refl;
    }

pub parameter_read_moves :
    (coming : Terminal) (inline : Bool) (naming : Naming) (token : PlainToken) → terminal token ≡ coming → (aim : Aim) (parts : List PlainTree)
    → ParameterRead naming (Yields aim) parts → Moves coming token (parameter_read inline naming) aim parts (parameter_read_move inline naming coming)
parameter_read_moves t.Comma inline naming token e aim parts p = where_it_may (may_go_on inline naming)
  where
    where_it_may : (x : Bool) → Moves t.Comma token (parameter_read inline naming) aim parts (if x then shifts (parameter_next inline naming) else fails)
    where_it_may true = λ after. next_parameter naming token e aim parts p
    where_it_may false = tt
parameter_read_moves _ inline naming token e aim parts p = parameters_end _ inline naming aim parts p

pub told_joined :
    (naming last : Naming) (parts : List PlainTree) (tree : PlainTree)
    → (naming ≡ named → (tree : PlainTree) → IsTrue (is_named tree) → IsTrue (all_named (trees (parts ++ tree ∷ []))))
    → Tells last (more tree none) → Tells (joined_naming (naming ∷ []) last) (trees (parts ++ tree ∷ []))
told_joined named named parts tree n h = n refl tree (and_parts (is_named tree) true h).0
told_joined named lone_void parts tree n h = tt
told_joined named unnamed parts tree n h = tt
told_joined lone_void last parts tree n h = tt
told_joined unnamed last parts tree n h = tt

pub parameter_next_moves :
    (inline : Bool) (naming : Naming) (coming : Terminal) (token : PlainToken) → terminal token ≡ coming → (aim : Aim) (parts : List PlainTree)
    → ParameterNext naming (Yields aim) parts → Moves coming token (parameter_next inline naming) aim parts (move (parameter_next inline naming) coming)
parameter_next_moves inline naming coming token e aim parts p =
    enters_or_fails coming token (parameter_next inline naming) (parameter_at inline (naming ∷ [])) a_parameter aim parts (begins_parameter inline coming)
    (λ after ended tree y c. record {
      separated = p.separated tree y.belongs;
      tells = told_joined naming (naming_at ended) parts tree p.tells y.tells;
      accepts = p.accepts;
    })
    (begins_parameter_good inline token coming e)

-- ---- in a parameter

abstract_so : (inline : Bool) → category_of (parameter_role inline) ≡ abstract_declarator
abstract_so true = refl
abstract_so false = refl

named_alike : (words tree : PlainTree) → IsTrue (is_named (node k.Parameter (more absent (more tree none)))) → IsTrue (is_named (node k.Parameter (more words (more tree none))))
named_alike words (leaf token) h = absurd cc
named_alike words (node kind parts) h = h

told_by_declarator :
    (naming : Naming) (words tree : PlainTree) → (naming ≡ named → IsTrue (is_named (node k.Parameter (more absent (more tree none)))))
    → (naming ≡ lone_void → ⊥) → Tells naming (more (node k.Parameter (more words (more tree none))) none)
told_by_declarator named words tree n v = and_from (is_named (node k.Parameter (more words (more tree none)))) true (named_alike words tree (n refl)) refl
told_by_declarator lone_void words tree n v = absurd (v refl)
told_by_declarator unnamed words tree n v = tt

pub declarator_comes :
    (inline lone : Bool) (aim : Aim) (parts : List PlainTree) → ParameterTyped lone (Yields aim) parts
    → Awaits (parameter_declared unnamed) parts (declarator_of (parameter_role inline)) aim
declarator_comes inline lone aim parts p coming ended tree y c =
    let words : PlainTree = node k.Specifiers p.tokens in
    let fits : IsTrue (is_a abstract_declarator tree) = subst (λ (x : Category). IsTrue (is_a x tree)) (abstract_so inline) y.belongs in
    subst (λ (l : List PlainTree). Yields aim (parameter_declared (naming_at ended)) (node k.Parameter (trees (l ++ tree ∷ [])))) (sym p.alone)
    (p.accepts (parameter_declared (naming_at ended)) (node k.Parameter (more words (more tree none)))
    (record {
      belongs =
          and_from (is_a specifiers words) (are_in_row (optional abstract_declarator ∷ []) (more tree none)) p.specify
          (optional_first abstract_declarator [] tree none fits refl);
      tells = told_by_declarator (naming_at ended) words tree y.is_named y.is_no_void;
    }))

told_by_type :
    (inline lone : Bool) (tokens : PlainTrees) → (lone ≡ true → IsTrue (are_words (t.Void ∷ []) tokens))
    → Tells (naming_at (parameter_typed inline lone)) (more (node k.Parameter (more (node k.Specifiers tokens) (more absent none))) none)
told_by_type inline true tokens v = and_from (are_words (t.Void ∷ []) tokens) true (v refl) refl
told_by_type inline false tokens v = tt

parameter_ends :
    (coming : Terminal) (inline lone : Bool) (aim : Aim) (parts : List PlainTree) → ParameterTyped lone (Yields aim) parts
    → Finishes coming (parameter_typed inline lone) aim (node k.Parameter (trees (parts ++ absent ∷ [])))
parameter_ends coming inline lone aim parts p =
    let words : PlainTree = node k.Specifiers p.tokens in
    record {
      yields =
          subst (λ (l : List PlainTree). Yields aim (parameter_typed inline lone) (node k.Parameter (trees (l ++ absent ∷ [])))) (sym p.alone)
          (p.accepts (parameter_typed inline lone) (node k.Parameter (more words (more absent none)))
          (record { belongs = and_from (is_a specifiers words) true p.specify refl; tells = told_by_type inline lone p.tokens p.void }));
      closed = λ x. refl;
    }

pub parameter_typed_moves :
    (inline lone : Bool) (coming : Terminal) (token : PlainToken) → terminal token ≡ coming → (aim : Aim) (parts : List PlainTree)
    → ParameterTyped lone (Yields aim) parts → Moves coming token (parameter_typed inline lone) aim parts (parameter_typed_move inline coming)
parameter_typed_moves inline lone coming token e aim parts p =
    enters_or_skips coming token (parameter_typed inline lone) (parameter_declared unnamed) (declarator_of (parameter_role inline)) aim parts
    (begins_declarator (parameter_role inline) coming) (finishes k.Parameter) (declarator_comes inline lone aim parts p)
    (begins_declarator_good (parameter_role inline) coming token e (declarator_of (parameter_role inline)) (λ ended tree h. h))
    (parameter_ends coming inline lone aim parts p)
