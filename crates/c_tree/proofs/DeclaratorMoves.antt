-- Steps in lists of declarators and in declarators.
use Rattle.std.proofs.Common.{◌≡◌, Bool, true, false, not, ◌&&◌, ◌||◌, List, [], ◌∷◌, ◌++◌, refl, ap, ◌∙◌, sym, subst, append-nil, append_assoc}
use Rattle.std.proofs.lemmas.Bool.{and_parts, and_from}
use Rattle.std.specs.Prelude.{IsTrue, if◌then◌else◌}
use Rattle.c_text.specs.Token.{PlainToken}
use Rattle.c_tree.specs.declared.kinds.Kind.TheVariants as k
use Rattle.c_tree.specs.declared.terminals.Terminal.{Terminal}
use Rattle.c_tree.specs.declared.terminals.Terminal.TheVariants as t
use Rattle.c_tree.specs.Terminals.{terminal, is_one_of}
use Rattle.c_tree.specs.Trees.{PlainTree, PlainTrees, leaf, node, none, more, absent, trees}
use Rattle.c_tree.specs.Grammar.{Category, declarator, initialiser, Role, file_first, file_inline, file_later, local, member_of, parameter_of, inline_parameter, bracketed_size, is_a, is_word, at_file_scope, lacks_parameters, may_be_initialised, may_follow_declarator, may_follow_initialiser, are_declared}
use Rattle.c_tree.specs.Places.{Place, declarator_at, declarator_read, declarator_next, initialiser_next, initialiser_read, before_name, behind_name, in_brackets, parameters_next, behind_parameters, Flavour, object, empty, is_inline_role, may_be_declared_so, later, flavour_at, shifts, finishes, fails, behind_first, begins_declarator, begins_initialiser, declarator_read_move, initialiser_read_move, before_name_move, behind_name_move, move}
use Rattle.c_tree.proofs.Fits.{Aim, plain, declarator_of, Yields, Awaits, InRow, DeclaratorRead, DeclaratorNext, InitialiserNext, InitialiserRead, BeforeName, BehindName, ParametersNext, Finishes, Moves, is_first, base, category_of, are_stars}
use Rattle.c_tree.proofs.Rows.{leaf_first}
use Rattle.c_tree.proofs.Declarators.{any_part-name, begins_declarator_good, plain_declarator, array_declarator, bare_declarator, bare_array, empty_function, full_function}
use Rattle.c_tree.proofs.Parts.{begins_initialiser_good}
use Rattle.c_tree.proofs.FileMoves.{lacks_parameters-more}
use Rattle.c_tree.proofs.RowMoves.{enters_or_fails}

-- ---- roles

base-later : (role : Role) → base (later role) ≡ base role
base-later file_first = refl
base-later _ = refl

listed-later : (role : Role) → category_of role ≡ declarator (base role) → category_of (later role) ≡ declarator (base (later role))
listed-later file_first e = refl
listed-later file_inline e = refl
listed-later file_later e = refl
listed-later local e = refl
listed-later member_of e = refl
listed-later parameter_of e = e
listed-later inline_parameter e = e

later_next : (role : Role) (flavour : Flavour) → may_be_declared_so (is_inline_role role) flavour ≡ true → IsTrue (not (is_first (later role)))
later_next file_inline flavour h = absurd cc
later_next file_first flavour h = refl
later_next _ flavour h = refl

pub later_is_object : (role : Role) (flavour : Flavour) → IsTrue (not (is_first role)) → flavour_at (declarator_read role flavour) ≡ object
later_is_object file_first flavour h = absurd cc
later_is_object file_inline flavour h = absurd cc
later_is_object file_later flavour h = refl
later_is_object local flavour h = refl
later_is_object member_of flavour h = refl
later_is_object parameter_of flavour h = refl
later_is_object inline_parameter flavour h = refl

may_be_initialised-base : (role : Role) → may_be_initialised role ≡ true → may_be_initialised (base role) ≡ true
may_be_initialised-base file_inline h = refl
may_be_initialised-base file_later h = refl
may_be_initialised-base file_first h = h
may_be_initialised-base local h = h
may_be_initialised-base member_of h = h
may_be_initialised-base parameter_of h = h
may_be_initialised-base inline_parameter h = h

initialiser_lacks : (tree : PlainTree) → IsTrue (is_a initialiser tree) → IsTrue (not (lacks_parameters (more tree none)))
initialiser_lacks (leaf token) h = refl
initialiser_lacks (node k.FunctionDeclarator parts) h = absurd cc
initialiser_lacks (node k.Absent parts) h = refl
initialiser_lacks (node _ parts) h = refl

-- ---- what may follow a declarator

follows_comma :
    (role : Role) (token : PlainToken) (tree : PlainTree) (rest : PlainTrees) → terminal token ≡ t.Comma → IsTrue (is_a (declarator role) tree)
    → IsTrue (may_follow_declarator role rest) → IsTrue (may_follow_declarator role (more (leaf token) (more tree rest)))
follows_comma role token tree rest e a h =
    ap (λ x. if x then is_a (declarator role) tree && may_follow_declarator role rest
    else is_word (t.Assign ∷ []) (leaf token) && may_be_initialised role && is_a initialiser tree && may_follow_initialiser role rest)
    (ap (is_one_of (t.Comma ∷ [])) e)
    ∙ and_from (is_a (declarator role) tree) (may_follow_declarator role rest) a h

follows_assign :
    (role : Role) (token : PlainToken) (tree : PlainTree) (rest : PlainTrees) → terminal token ≡ t.Assign → may_be_initialised role ≡ true
    → IsTrue (is_a initialiser tree) → IsTrue (may_follow_initialiser role rest) → IsTrue (may_follow_declarator role (more (leaf token) (more tree rest)))
follows_assign role token tree rest e m a h =
    ap (λ x. if x then is_a (declarator role) tree && may_follow_declarator role rest
    else is_word (t.Assign ∷ []) (leaf token) && may_be_initialised role && is_a initialiser tree && may_follow_initialiser role rest)
    (ap (is_one_of (t.Comma ∷ [])) e)
    ∙ and_from (is_word (t.Assign ∷ []) (leaf token) && may_be_initialised role && is_a initialiser tree) (may_follow_initialiser role rest)
    (and_from (is_word (t.Assign ∷ []) (leaf token) && may_be_initialised role) (is_a initialiser tree)
    (and_from (is_word (t.Assign ∷ []) (leaf token)) (may_be_initialised role) (ap (is_one_of (t.Assign ∷ [])) e) m) a) h

-- with one more part
one_more :
    (aim : Aim) (ended : Place) (parts : List PlainTree) (tree : PlainTree) (further : List PlainTree)
    → Yields aim ended (node k.Declarators (trees (parts ++ tree ∷ further)))
    → Yields aim ended (node k.Declarators (trees ((parts ++ tree ∷ []) ++ further)))
one_more aim ended parts tree further y =
    subst (λ (l : List PlainTree). Yields aim ended (node k.Declarators (trees l))) (sym (append_assoc parts (tree ∷ []) further)) y

listed_so :
    (role : Role) → category_of role ≡ declarator (base role) → (tree : PlainTree) → IsTrue (is_a (category_of (later role)) tree)
    → IsTrue (is_a (declarator (base role)) tree)
listed_so role e tree h =
    subst (λ (c : Category). IsTrue (is_a c tree)) (listed-later role e ∙ ap declarator (base-later role)) h

-- ---- steps in lists of declarators

comma_comes :
    (role : Role) (flavour : Flavour) (token : PlainToken) → terminal token ≡ t.Comma → (aim : Aim) (parts : List PlainTree)
    → DeclaratorRead role flavour (Yields aim) parts → may_be_declared_so (is_inline_role role) flavour ≡ true
    → DeclaratorNext (later role) (Yields aim) (parts ++ leaf token ∷ [])
comma_comes role flavour token e aim parts d may =
    record {
      listed = listed-later role d.listed;
      later = later_next role flavour may;
      completes = λ ended same tree further a lack h lacks.
          one_more aim ended parts (leaf token) (tree ∷ further)
          (d.completes may ended same (leaf token ∷ tree ∷ further)
          (follows_comma (base role) token tree (trees further) e (listed_so role d.listed tree a)
          (subst (λ (r : Role). IsTrue (may_follow_declarator r (trees further))) (base-later role) h))
          (lacks_parameters-more tree (trees further) lack lacks));
    }

assign_comes :
    (role : Role) (flavour : Flavour) (token : PlainToken) → terminal token ≡ t.Assign → (aim : Aim) (parts : List PlainTree)
    → DeclaratorRead role flavour (Yields aim) parts → may_be_declared_so (is_inline_role role) flavour ≡ true → may_be_initialised role ≡ true
    → InitialiserNext role (Yields aim) (parts ++ leaf token ∷ [])
assign_comes role flavour token e aim parts d may initialised =
    record {
      listed = d.listed;
      later = later_next role flavour may;
      completes = λ ended same tree further a h lacks.
          one_more aim ended parts (leaf token) (tree ∷ further)
          (d.completes may ended same (leaf token ∷ tree ∷ further)
          (follows_assign (base role) token tree (trees further) e (may_be_initialised-base role initialised) a h)
          (lacks_parameters-more tree (trees further) (initialiser_lacks tree a) lacks));
    }

pub declarator_read_moves :
    (coming : Terminal) (role : Role) (flavour : Flavour) (token : PlainToken) → terminal token ≡ coming → (aim : Aim) (parts : List PlainTree)
    → DeclaratorRead role flavour (Yields aim) parts → Moves coming token (declarator_read role flavour) aim parts (declarator_read_move role flavour coming)
declarator_read_moves t.Comma role flavour token e aim parts d = where_it_may (may_be_declared_so (is_inline_role role) flavour) refl
  where
    where_it_may :
        (x : Bool) → may_be_declared_so (is_inline_role role) flavour ≡ x
        → Moves t.Comma token (declarator_read role flavour) aim parts (if x then shifts (declarator_next (later role)) else fails)
    where_it_may true h = λ after. comma_comes role flavour token e aim parts d h
    where_it_may false h = tt
declarator_read_moves t.Assign role flavour token e aim parts d =
    where_it_may (may_be_declared_so (is_inline_role role) flavour && may_be_initialised role) refl
  where
    where_it_may :
        (x : Bool) → (may_be_declared_so (is_inline_role role) flavour && may_be_initialised role) ≡ x
        → Moves t.Assign token (declarator_read role flavour) aim parts (if x then shifts (initialiser_next role) else fails)
    where_it_may true h =
        let both = and_parts (may_be_declared_so (is_inline_role role) flavour) (may_be_initialised role) h in
        λ after. assign_comes role flavour token e aim parts d both.0 both.1
    where_it_may false h = tt
declarator_read_moves _ role flavour token e aim parts d = record { yields = d.finishes; closed = λ x. refl }

pub declarator_comes :
    (role : Role) (aim : Aim) (parts : List PlainTree) → DeclaratorNext role (Yields aim) parts → Awaits (declarator_at role) parts (declarator_of role) aim
declarator_comes role aim parts d coming ended tree y c =
    let lack : IsTrue (not (lacks_parameters (more tree none))) =
    y.declares (ap (λ x. x || may_be_declared_so false (flavour_at ended)) d.later) in
    record {
      listed = d.listed;
      finishes =
          d.completes (declarator_read role (flavour_at ended)) (later_is_object role (flavour_at ended) d.later) tree [] y.belongs lack refl refl;
      completes = λ may ended' same further h lacks. one_more aim ended' parts tree further (d.completes ended' same tree further y.belongs lack h lacks);
    }

pub declarator_next_moves :
    (role : Role) (coming : Terminal) (token : PlainToken) → terminal token ≡ coming → (aim : Aim) (parts : List PlainTree)
    → DeclaratorNext role (Yields aim) parts → Moves coming token (declarator_next role) aim parts (move (declarator_next role) coming)
declarator_next_moves role coming token e aim parts d =
    enters_or_fails coming token (declarator_next role) (declarator_at role) (declarator_of role) aim parts (begins_declarator role coming)
    (declarator_comes role aim parts d) (begins_declarator_good role coming token e (declarator_of role) (λ ended tree h. h))

pub initialiser_comes :
    (role : Role) (aim : Aim) (parts : List PlainTree) → InitialiserNext role (Yields aim) parts → Awaits (initialiser_read role) parts (plain initialiser) aim
initialiser_comes role aim parts d coming ended tree y c =
    record {
      listed = d.listed;
      later = d.later;
      completes = λ ended' same further h lacks. one_more aim ended' parts tree further (d.completes ended' same tree further y h lacks);
    }

pub initialiser_next_moves :
    (role : Role) (coming : Terminal) (token : PlainToken) → terminal token ≡ coming → (aim : Aim) (parts : List PlainTree)
    → InitialiserNext role (Yields aim) parts → Moves coming token (initialiser_next role) aim parts (move (initialiser_next role) coming)
initialiser_next_moves role coming token e aim parts d =
    enters_or_fails coming token (initialiser_next role) (initialiser_read role) (plain initialiser) aim parts (begins_initialiser coming)
    (initialiser_comes role aim parts d)
    (begins_initialiser_good token coming e)

pub initialiser_read_moves :
    (coming : Terminal) (role : Role) (token : PlainToken) → terminal token ≡ coming → (aim : Aim) (parts : List PlainTree)
    → InitialiserRead role (Yields aim) parts → Moves coming token (initialiser_read role) aim parts (initialiser_read_move role coming)
initialiser_read_moves t.Comma role token e aim parts d = λ after.
    record {
      listed = listed-later role d.listed;
      later = d.later;
      completes = λ ended same tree further a lack h lacks.
          one_more aim ended parts (leaf token) (tree ∷ further)
          (d.completes ended same (leaf token ∷ tree ∷ further)
          (and_from (is_word (t.Comma ∷ []) (leaf token)) (are_declared (base role) (more tree (trees further))) (ap (is_one_of (t.Comma ∷ [])) e)
          (and_from (is_a (declarator (base role)) tree) (may_follow_declarator (base role) (trees further)) (listed_so role d.listed tree a)
          (subst (λ (r : Role). IsTrue (may_follow_declarator r (trees further))) (base-later role) h)))
          (lacks_parameters-more tree (trees further) lack lacks));
    }
initialiser_read_moves _ role token e aim parts d =
    record {
      yields =
          subst (λ (l : List PlainTree). Yields aim (initialiser_read role) (node k.Declarators (trees l))) (append-nil parts)
          (d.completes (initialiser_read role) refl [] refl refl);
      closed = λ x. refl;
    }

-- ---- steps in a declarator

are_stars-append :
    (parts : List PlainTree) (token : PlainToken) → terminal token ≡ t.Star → IsTrue (are_stars parts) → IsTrue (are_stars (parts ++ leaf token ∷ []))
are_stars-append [] token e s = and_from (is_word (t.Star ∷ []) (leaf token)) true (ap (is_one_of (t.Star ∷ [])) e) refl
are_stars-append (first ∷ parts) token e s =
    let both = and_parts (is_word (t.Star ∷ []) first) (are_stars parts) s in
    and_from (is_word (t.Star ∷ []) first) (are_stars (parts ++ leaf token ∷ [])) both.0 (are_stars-append parts token e both.1)

one_star_more :
    (role : Role) (token : PlainToken) → terminal token ≡ t.Star → (aim : Aim) (parts : List PlainTree)
    → BeforeName role (Yields aim) parts → BeforeName role (Yields aim) (parts ++ leaf token ∷ [])
one_star_more role token e aim parts b =
    record { starry = are_stars-append parts token e b.starry; some = any_part-name parts [] (leaf token); accepts = b.accepts }

pub the_name :
    (role : Role) (token : PlainToken) → terminal token ≡ t.Name → (aim : Aim) (parts : List PlainTree)
    → BeforeName role (Yields aim) parts → BehindName role (Yields aim) (parts ++ leaf token ∷ [])
the_name role token e aim parts b =
    record { before = parts; name = token; both = refl; starry = b.starry; is_name = e; accepts = b.accepts }

bare_brackets :
    (token : PlainToken) → terminal token ≡ t.OpenBracket → (aim : Aim) (parts : List PlainTree) → BeforeName parameter_of (Yields aim) parts
    → (after : Terminal) → InRow after k.ArrayDeclarator (in_brackets false) (behind_first bracketed_size) (Yields aim) (parts ++ leaf token ∷ [])
bare_brackets token e aim parts b after =
    record {
      tidy = refl;
      solid = refl;
      completes = λ left further h near.
          subst (λ (l : List PlainTree). Yields aim (in_brackets false left) (node k.ArrayDeclarator (trees l))) (sym (append_assoc parts (leaf token ∷ []) further))
          (b.accepts (in_brackets false left) (node k.ArrayDeclarator (trees (parts ++ leaf token ∷ further)))
          (bare_array left parts token further b.starry e h));
      counts = λ i. absurd cc;
      leaves = tt;
    }

pub before_name_moves :
    (role : Role) (coming : Terminal) (starred : Bool) (token : PlainToken) → terminal token ≡ coming → (aim : Aim) (parts : List PlainTree)
    → BeforeName role (Yields aim) parts → Moves coming token (before_name role starred) aim parts (before_name_move role coming)
before_name_moves role t.Star starred token e aim parts b = λ after. one_star_more role token e aim parts b
before_name_moves role t.Name starred token e aim parts b = λ after. the_name role token e aim parts b
before_name_moves parameter_of t.OpenBracket starred token e aim parts b = bare_brackets token e aim parts b
before_name_moves parameter_of coming starred token e aim parts b =
    record {
      yields = b.accepts (before_name parameter_of starred) (node k.Declarator (trees parts)) (bare_declarator starred parts b.starry b.some);
      closed = λ x. refl;
    }
before_name_moves role _ starred token e aim parts b = tt

pub name_ends :
    (role : Role) (coming : Terminal) (aim : Aim) (parts : List PlainTree) → BehindName role (Yields aim) parts
    → Finishes coming (behind_name role) aim (node k.Declarator (trees parts))
name_ends role coming aim parts b =
    record {
      yields =
          subst (λ (l : List PlainTree). Yields aim (behind_name role) (node k.Declarator (trees l))) (sym b.both)
          (b.accepts (behind_name role) (node k.Declarator (trees (b.before ++ leaf b.name ∷ []))) (plain_declarator role b.before b.name b.starry b.is_name));
      closed = λ x. refl;
    }

-- behind a name and one more token
behind_both :
    (role : Role) (aim : Aim) (parts : List PlainTree) (b : BehindName role (Yields aim) parts) (tree : PlainTree) (further : List PlainTree)
    → (parts ++ tree ∷ []) ++ further ≡ b.before ++ leaf b.name ∷ tree ∷ further
behind_both role aim parts b tree further =
    append_assoc parts (tree ∷ []) further ∙ ap (λ l. l ++ tree ∷ further) b.both ∙ append_assoc b.before (leaf b.name ∷ []) (tree ∷ further)

brackets :
    (role : Role) (token : PlainToken) → terminal token ≡ t.OpenBracket → (aim : Aim) (parts : List PlainTree) → BehindName role (Yields aim) parts
    → (after : Terminal) → InRow after k.ArrayDeclarator (in_brackets true) (behind_first bracketed_size) (Yields aim) (parts ++ leaf token ∷ [])
brackets role token e aim parts b after =
    record {
      tidy = refl;
      solid = refl;
      completes = λ left further h near.
          subst (λ (l : List PlainTree). Yields aim (in_brackets true left) (node k.ArrayDeclarator (trees l))) (sym (behind_both role aim parts b (leaf token) further))
          (b.accepts (in_brackets true left) (node k.ArrayDeclarator (trees (b.before ++ leaf b.name ∷ leaf token ∷ further)))
          (array_declarator role left b.before b.name (leaf token ∷ further) b.starry b.is_name
          (leaf_first bracketed_size (behind_first bracketed_size) token t.OpenBracket (trees further) e refl h)));
      counts = λ i. absurd cc;
      leaves = tt;
    }

pub parentheses :
    (role : Role) (token : PlainToken) → terminal token ≡ t.OpenParenthesis → at_file_scope role ≡ true → (aim : Aim) (parts : List PlainTree)
    → BehindName role (Yields aim) parts → ParametersNext role (Yields aim) (parts ++ leaf token ∷ [])
parentheses role token e file aim parts b =
    record {
      lacking = λ first close c.
          subst (λ (l : List PlainTree). Yields aim (behind_parameters empty) (node k.FunctionDeclarator (trees l)))
          (sym (behind_both role aim parts b (leaf token) (absent ∷ leaf close ∷ [])))
          (b.accepts (behind_parameters empty) (node k.FunctionDeclarator (trees (b.before ++ leaf b.name ∷ leaf token ∷ absent ∷ leaf close ∷ [])))
          (empty_function role file b.before b.name token b.starry b.is_name e close c first));
      full = λ flavour tree close c h define.
          subst (λ (l : List PlainTree). Yields aim (behind_parameters flavour) (node k.FunctionDeclarator (trees l)))
          (sym (behind_both role aim parts b (leaf token) (tree ∷ leaf close ∷ [])))
          (b.accepts (behind_parameters flavour) (node k.FunctionDeclarator (trees (b.before ++ leaf b.name ∷ leaf token ∷ tree ∷ leaf close ∷ [])))
          (full_function role file b.before b.name token b.starry b.is_name e flavour tree close c h define));
    }

pub behind_name_moves :
    (role : Role) (coming : Terminal) (token : PlainToken) → terminal token ≡ coming → (aim : Aim) (parts : List PlainTree)
    → BehindName role (Yields aim) parts → Moves coming token (behind_name role) aim parts (behind_name_move role coming)
behind_name_moves file_inline t.OpenBracket token e aim parts b = name_ends file_inline t.OpenBracket aim parts b
behind_name_moves role t.OpenBracket token e aim parts b = brackets role token e aim parts b
behind_name_moves role t.OpenParenthesis token e aim parts b = where_it_may (at_file_scope role) refl
  where
    where_it_may :
        (x : Bool) → at_file_scope role ≡ x
        → Moves t.OpenParenthesis token (behind_name role) aim parts (if x then shifts (parameters_next role) else finishes k.Declarator)
    where_it_may true h = λ after. parentheses role token e h aim parts b
    where_it_may false h = name_ends role t.OpenParenthesis aim parts b
behind_name_moves role _ token e aim parts b = name_ends role _ aim parts b
