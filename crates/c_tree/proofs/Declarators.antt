-- Declarators by their parts: stars, a name, brackets or parameters.
use Rattle.std.proofs.Common.{◌≡◌, Bool, true, false, not, ◌&&◌, ◌||◌, List, [], ◌∷◌, ◌++◌, refl, ap, ◌∙◌, sym}
use Rattle.std.proofs.lemmas.Bool.{and_parts, and_from, eqb-true, eq-eqb}
use Rattle.std.proofs.Math.Bool.{or-true, or-false}
use Rattle.std.specs.Prelude.{IsTrue, if◌then◌else◌}
use Rattle.c_text.specs.Token.{PlainToken}
use Rattle.c_tree.specs.declared.kinds.Kind.TheVariants as k
use Rattle.c_tree.specs.declared.terminals.Terminal.{Terminal}
use Rattle.c_tree.specs.declared.terminals.Terminal.TheVariants as t
use Rattle.c_tree.specs.Terminals.{terminal, number, same, is_one_of}
use Rattle.c_tree.specs.Trees.{PlainTree, PlainTrees, leaf, node, none, more, absent, trees}
use Rattle.c_tree.specs.Grammar.{expression, parameters, Role, file_first, file_inline, file_later, parameter_of, inline_parameter, Slot, word, perhaps, stars, optional, row, bracketed_size, at_file_scope, fine, next_part, has_name, may_be_defined, has_absent, is_absent, is_a, is_word, any_part, are_in_row}
use Rattle.c_tree.specs.Places.{Place, before_name, behind_name, in_brackets, behind_parameters, Flavour, empty, may_be_defined_so, may_be_declared_so, is_later, begins_declarator}
use Rattle.c_tree.proofs.Fits.{Aim, Yields, IsDeclarator, Begins, category_of, are_stars, is_first, BeforeName, BehindName}
use Rattle.c_tree.proofs.Rows.{next_word, goes_in, goes_in-row, leaf_first, optional_first}

-- ---- stars and a name

stars_first :
    (slots : List Slot) (before further : List PlainTree) → IsTrue (are_stars before)
    → IsTrue (are_in_row (stars ∷ slots) (trees further)) → IsTrue (are_in_row (stars ∷ slots) (trees (before ++ further)))
stars_first slots [] further s h = h
stars_first slots (first ∷ before) further s h =
    let both = and_parts (is_word (t.Star ∷ []) first) (are_stars before) s in
    goes_in-row (stars ∷ slots) first (trees (before ++ further))
    ∙ ap (λ x. goes_in first (trees (before ++ further)) (if x then fine (stars ∷ slots) else next_part slots first)) both.0
    ∙ stars_first slots before further both.1 h

stars_alone : (slots : List Slot) (before : List PlainTree) → IsTrue (are_stars before) → IsTrue (are_in_row (stars ∷ slots) none) → IsTrue (are_in_row (stars ∷ slots) (trees before))
stars_alone slots [] s h = h
stars_alone slots (first ∷ before) s h =
    let both = and_parts (is_word (t.Star ∷ []) first) (are_stars before) s in
    goes_in-row (stars ∷ slots) first (trees before)
    ∙ ap (λ x. goes_in first (trees before) (if x then fine (stars ∷ slots) else next_part slots first)) both.0
    ∙ stars_alone slots before both.1 h

abbrev pub name_slot : Role → Slot
name_slot parameter_of = perhaps (t.Name ∷ [])
name_slot inline_parameter = perhaps (t.Name ∷ [])
name_slot role = word (t.Name ∷ [])

name_next : (role : Role) (slots : List Slot) → next_word (stars ∷ name_slot role ∷ slots) t.Name ≡ fine slots
name_next parameter_of slots = refl
name_next _ slots = refl

-- a name behind stars, and what may come behind it
named_row :
    (role : Role) (slots : List Slot) (before : List PlainTree) (name : PlainToken) (further : List PlainTree)
    → IsTrue (are_stars before) → terminal name ≡ t.Name → IsTrue (are_in_row slots (trees further))
    → IsTrue (are_in_row (stars ∷ name_slot role ∷ slots) (trees (before ++ leaf name ∷ further)))
named_row role slots before name further s e h =
    stars_first (name_slot role ∷ slots) before (leaf name ∷ further) s
    (leaf_first (stars ∷ name_slot role ∷ slots) slots name t.Name (trees further) e (name_next role slots) h)

has_name-name :
    (before further : List PlainTree) (name : PlainToken) → IsTrue (are_stars before) → terminal name ≡ t.Name
    → has_name (trees (before ++ leaf name ∷ further)) ≡ true
has_name-name [] further name s e = ap (λ x. same t.Name x || (same t.Star x && has_name (trees further))) e
has_name-name (leaf token ∷ before) further name s e =
    let both = and_parts (is_word (t.Star ∷ []) (leaf token)) (are_stars before) s in
    let is_star : number (terminal token) ≡ number t.Star =
    eqb-true (number (terminal token)) (number t.Star) (sym (or-false (same (terminal token) t.Star)) ∙ both.0) in
    let star : same t.Star (terminal token) ≡ true = eq-eqb (number t.Star) (number (terminal token)) (sym is_star) in
    ap (λ x. same t.Name (terminal token) || (x && has_name (trees (before ++ leaf name ∷ further)))) star
    ∙ ap (λ x. same t.Name (terminal token) || x) (has_name-name before further name both.1 e)
    ∙ or-true (same t.Name (terminal token))
has_name-name (node kind inner ∷ before) further name s e = absurd cc

pub any_part-name : (before further : List PlainTree) (tree : PlainTree) → any_part (trees (before ++ tree ∷ further)) ≡ true
any_part-name [] further tree = refl
any_part-name (first ∷ before) further tree = refl

-- ---- declarators

belongs_plain :
    (role : Role) (parts : PlainTrees) → any_part parts ≡ true → IsTrue (are_in_row (stars ∷ name_slot role ∷ []) parts)
    → IsTrue (is_a (category_of role) (node k.Declarator parts))
belongs_plain parameter_of parts a h = and_from (any_part parts) (are_in_row (stars ∷ perhaps (t.Name ∷ []) ∷ []) parts) a h
belongs_plain inline_parameter parts a h = and_from (any_part parts) (are_in_row (stars ∷ perhaps (t.Name ∷ []) ∷ []) parts) a h
belongs_plain _ parts a h = and_from (any_part parts) (are_in_row (row k.Declarator) parts) a h

belongs_array :
    (role : Role) (parts : PlainTrees) → IsTrue (are_in_row (stars ∷ name_slot role ∷ bracketed_size) parts)
    → IsTrue (is_a (category_of role) (node k.ArrayDeclarator parts))
belongs_array parameter_of parts h = h
belongs_array _ parts h = h

belongs_function :
    (role : Role) (parts : PlainTrees) → at_file_scope role ≡ true → IsTrue (are_in_row (row k.FunctionDeclarator) parts)
    → IsTrue (is_a (category_of role) (node k.FunctionDeclarator parts))
belongs_function file_first parts f h = h
belongs_function file_inline parts f h = h
belongs_function file_later parts f h = h
belongs_function _ parts f h = absurd cc

pub plain_declarator :
    (role : Role) (before : List PlainTree) (name : PlainToken) → IsTrue (are_stars before) → terminal name ≡ t.Name
    → IsDeclarator role (behind_name role) (node k.Declarator (trees (before ++ leaf name ∷ [])))
plain_declarator role before name s e =
    record {
      belongs =
          belongs_plain role (trees (before ++ leaf name ∷ [])) (any_part-name before [] (leaf name)) (named_row role [] before name [] s e refl);
      declares = λ h. refl;
      defines = λ h. absurd cc;
      is_named = λ h. has_name-name before [] name s e;
      is_no_void = λ h. cc;
    }

pub array_declarator :
    (role : Role) (left : List Slot) (before : List PlainTree) (name : PlainToken) (further : List PlainTree) → IsTrue (are_stars before) → terminal name ≡ t.Name
    → IsTrue (are_in_row bracketed_size (trees further))
    → IsDeclarator role (in_brackets true left) (node k.ArrayDeclarator (trees (before ++ leaf name ∷ further)))
array_declarator role left before name further s e h =
    record {
      belongs = belongs_array role (trees (before ++ leaf name ∷ further)) (named_row role bracketed_size before name further s e h);
      declares = λ h. refl;
      defines = λ h. absurd cc;
      is_named = λ h. has_name-name before further name s e;
      is_no_void = λ h. cc;
    }

pub bare_declarator :
    (starred : Bool) (before : List PlainTree) → IsTrue (are_stars before) → any_part (trees before) ≡ true
    → IsDeclarator parameter_of (before_name parameter_of starred) (node k.Declarator (trees before))
bare_declarator starred before s a =
    record {
      belongs = belongs_plain parameter_of (trees before) a (stars_alone (perhaps (t.Name ∷ []) ∷ []) before s refl);
      declares = λ h. refl;
      defines = λ h. absurd cc;
      is_named = λ h. absurd cc;
      is_no_void = λ h. cc;
    }

pub bare_array :
    (left : List Slot) (before : List PlainTree) (token : PlainToken) (further : List PlainTree) → IsTrue (are_stars before) → terminal token ≡ t.OpenBracket
    → IsTrue (are_in_row (optional (expression 2) ∷ word (t.CloseBracket ∷ []) ∷ []) (trees further))
    → IsDeclarator parameter_of (in_brackets false left) (node k.ArrayDeclarator (trees (before ++ leaf token ∷ further)))
bare_array left before token further s e h =
    record {
      belongs =
          belongs_array parameter_of (trees (before ++ leaf token ∷ further))
          (stars_first (perhaps (t.Name ∷ []) ∷ bracketed_size) before (leaf token ∷ further) s
          (leaf_first (stars ∷ perhaps (t.Name ∷ []) ∷ bracketed_size) (optional (expression 2) ∷ word (t.CloseBracket ∷ []) ∷ []) token
          t.OpenBracket (trees further) e refl h));
      declares = λ h. refl;
      defines = λ h. absurd cc;
      is_named = λ h. absurd cc;
      is_no_void = λ h. cc;
    }

-- ---- how one begins

module _ (role : Role) (token : PlainToken) (aim : Aim)
    (accepts : (ended : Place) (tree : PlainTree) → IsDeclarator role ended tree → Yields aim ended tree) where
  star_begins : terminal token ≡ t.Star → BeforeName role (Yields aim) (leaf token ∷ [])
  star_begins e =
      record {
        starry = and_from (is_word (t.Star ∷ []) (leaf token)) true (ap (is_one_of (t.Star ∷ [])) e) refl;
        some = refl;
        accepts = accepts;
      }

  name_begins : terminal token ≡ t.Name → BehindName role (Yields aim) (leaf token ∷ [])
  name_begins e = record { before = []; name = token; both = refl; starry = refl; is_name = e; accepts = accepts }

pub begins_declarator_good :
    (role : Role) (kind : Terminal) (token : PlainToken) → terminal token ≡ kind → (aim : Aim)
    → ((ended : Place) (tree : PlainTree) → IsDeclarator role ended tree → Yields aim ended tree)
    → Begins token (begins_declarator role kind) aim
begins_declarator_good role t.Star token e aim accepts = λ coming. star_begins role token aim accepts e
begins_declarator_good role t.Name token e aim accepts = λ coming. name_begins role token aim accepts e
begins_declarator_good parameter_of t.OpenBracket token e aim accepts = λ coming.
    record {
      tidy = refl;
      solid = refl;
      completes = λ left further h near.
          accepts (in_brackets false left) (node k.ArrayDeclarator (more (leaf token) (trees further))) (bare_array left [] token further refl e h);
      counts = λ h. absurd cc;
      leaves = tt;
    }
begins_declarator_good role t.OpenBracket token e aim accepts = tt
begins_declarator_good role _ token e aim accepts = tt

-- ---- with parameters

has_absent-stars : (before further : List PlainTree) → IsTrue (are_stars before) → has_absent (trees (before ++ further)) ≡ has_absent (trees further)
has_absent-stars [] further s = refl
has_absent-stars (leaf token ∷ before) further s =
    has_absent-stars before further (and_parts (is_word (t.Star ∷ []) (leaf token)) (are_stars before) s).1
has_absent-stars (node kind parts ∷ before) further s = absurd cc

may_be_defined-stars : (before further : List PlainTree) → IsTrue (are_stars before) → may_be_defined (trees (before ++ further)) ≡ may_be_defined (trees further)
may_be_defined-stars [] further s = refl
may_be_defined-stars (leaf token ∷ before) further s =
    may_be_defined-stars before further (and_parts (is_word (t.Star ∷ []) (leaf token)) (are_stars before) s).1
may_be_defined-stars (node kind parts ∷ before) further s = absurd cc

parameters_present : (tree : PlainTree) → IsTrue (is_a parameters tree) → is_absent tree ≡ false
parameters_present (leaf token) h = refl
parameters_present (node k.Absent none) h = absurd cc
parameters_present (node k.Absent (more part rest)) h = refl
parameters_present (node _ parts) h = refl

may_be_defined-last : (tree : PlainTree) (close : PlainToken) → may_be_defined (more tree (more (leaf close) none)) ≡ may_be_defined (more tree none)
may_be_defined-last (leaf token) close = refl
may_be_defined-last (node kind parts) close = refl

module _ (role : Role) (file : at_file_scope role ≡ true) (before : List PlainTree) (name open_token : PlainToken)
    (starry : IsTrue (are_stars before)) (is_name : terminal name ≡ t.Name) (opens : terminal open_token ≡ t.OpenParenthesis) where
  abbrev all_parts : PlainTree → PlainToken → List PlainTree
  all_parts tree close = before ++ leaf name ∷ leaf open_token ∷ tree ∷ leaf close ∷ []

  belongs_with :
      (tree : PlainTree) (close : PlainToken) → IsTrue (are_in_row (optional parameters ∷ word (t.CloseParenthesis ∷ []) ∷ []) (more tree (more (leaf close) none)))
      → IsTrue (is_a (category_of role) (node k.FunctionDeclarator (trees (all_parts tree close))))
  belongs_with tree close h =
      belongs_function role (trees (all_parts tree close)) file
      (named_row file_first (word (t.OpenParenthesis ∷ []) ∷ optional parameters ∷ word (t.CloseParenthesis ∷ []) ∷ []) before name
      (leaf open_token ∷ tree ∷ leaf close ∷ []) starry is_name
      (leaf_first (word (t.OpenParenthesis ∷ []) ∷ optional parameters ∷ word (t.CloseParenthesis ∷ []) ∷ [])
      (optional parameters ∷ word (t.CloseParenthesis ∷ []) ∷ []) open_token t.OpenParenthesis (more tree (more (leaf close) none)) opens refl h))

  closes : (close : PlainToken) → terminal close ≡ t.CloseParenthesis → IsTrue (are_in_row (word (t.CloseParenthesis ∷ []) ∷ []) (more (leaf close) none))
  closes close e = leaf_first (word (t.CloseParenthesis ∷ []) ∷ []) [] close t.CloseParenthesis none e refl refl

  pub empty_function :
      (close : PlainToken) → terminal close ≡ t.CloseParenthesis → is_later role ≡ false
      → IsDeclarator role (behind_parameters empty) (node k.FunctionDeclarator (trees (all_parts absent close)))
  empty_function close e first =
      record {
        belongs = belongs_with absent close (closes close e);
        declares = λ h. absurd (not_declared role file first h);
        defines = λ h. may_be_defined-stars before (leaf name ∷ leaf open_token ∷ absent ∷ leaf close ∷ []) starry;
        is_named = λ h. absurd cc;
        is_no_void = λ h. cc;
      }
    where
      not_declared : (role : Role) → at_file_scope role ≡ true → is_later role ≡ false → IsTrue (not (is_first role) || may_be_declared_so false empty) → ⊥
      not_declared file_first f l h = cc
      not_declared file_inline f l h = cc
      not_declared file_later f l h = cc
      not_declared _ f l h = cc

  pub full_function :
      (flavour : Flavour) (tree : PlainTree) (close : PlainToken) → terminal close ≡ t.CloseParenthesis → IsTrue (is_a parameters tree)
      → (IsTrue (may_be_defined_so flavour) → IsTrue (may_be_defined (more tree none)))
      → IsDeclarator role (behind_parameters flavour) (node k.FunctionDeclarator (trees (all_parts tree close)))
  full_function flavour tree close e h define =
      record {
        belongs =
            belongs_with tree close
            (optional_first parameters (word (t.CloseParenthesis ∷ []) ∷ []) tree (more (leaf close) none) h (closes close e));
        declares = λ x.
            let present : has_absent (trees (all_parts tree close)) ≡ false =
            has_absent-stars before (leaf name ∷ leaf open_token ∷ tree ∷ leaf close ∷ []) starry
            ∙ ap (λ y. y || false) (parameters_present tree h) in
            ap (λ y. not (y || false)) present;
        defines = λ x.
            may_be_defined-stars before (leaf name ∷ leaf open_token ∷ tree ∷ leaf close ∷ []) starry ∙ may_be_defined-last tree close ∙ define x;
        is_named = λ h. absurd cc;
        is_no_void = λ h. cc;
      }
