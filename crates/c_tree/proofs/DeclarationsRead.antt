-- Declarators with their initialisers are read to their end.
use Rattle.std.proofs.Common.{◌≡◌, Bool, true, false, not, ◌&&◌, ◌||◌, List, [], ◌∷◌, ◌++◌, refl, ap, sym, ◌∙◌}
use Rattle.std.specs.Prelude.{IsTrue, if◌then◌else◌}
use Rattle.std.proofs.lemmas.Bool.{and_parts, or_parts, false≢true, not-true}
use Rattle.std.proofs.lemmas.List.{append_assoc}
use Rattle.c_text.specs.Token.{PlainToken}
use Rattle.c_tree.specs.declared.kinds.Kind.{Kind}
use Rattle.c_tree.specs.declared.kinds.Kind.TheVariants as k
use Rattle.c_tree.specs.declared.terminals.Terminal.TheVariants as t
use Rattle.c_tree.specs.Terminals.{terminal, is_one_of}
use Rattle.c_tree.specs.Trees.{PlainTree, PlainTrees, leaf, node, none, more, trees, written, all_written}
use Rattle.c_tree.specs.Grammar.{declarators, declarator, initialiser, Role, file_first, file_inline, file_later, local, member_of, at_file_scope, may_be_initialised, is_a, is_kind, has_absent, lacks_parameters, defines_function, are_declared, may_follow_declarator, may_follow_initialiser}
use Rattle.c_tree.specs.Places.{Place, declarator_at, declarator_read, declarator_next, initialiser_next, initialiser_read, begins_declarator, begins_initialiser, shifts, finishes, fails, move, back, declarator_read_move, is_inline_role, later, Flavour, flavour_at, may_be_declared_so, may_be_defined_so}
use Rattle.c_tree.specs.Machine.{Frame, frame}
use Rattle.c_tree.proofs.TerminalCases.{one_of}
use Rattle.c_tree.proofs.Coming.{ahead, reading, arriving, entering, shifting, finishing, needing, entering_around}
use Rattle.c_tree.proofs.Readable.{Joins, MayFollow, Readable, AllReadable, listed, lacks, defines, suits, DeclaratorRead, DeclarationRead, DefinitionRead, begins_declarators, may_be_declarators, first_role}
use Rattle.c_tree.proofs.RowsRead.{trees_listed}
use Rattle.c_tree.proofs.ExpressionsRead.{Formed, formed, AllParts}
use Rattle.c_tree.proofs.DeclaratorForms.{DeclaratorForm, plain_form, array_form, function_form, declarator_form}
use Rattle.c_tree.proofs.DeclaratorsRead.{declarator_closers}

-- ---- roles

-- declarators for a role may be read in the places of another
record Serves (asked role : Role) : Type 0 where
  scope : IsTrue (at_file_scope asked) → IsTrue (at_file_scope role)
  initialised : IsTrue (may_be_initialised asked) → IsTrue (may_be_initialised role)
  no_inline : is_inline_role role ≡ false

later_scope : (role : Role) → at_file_scope (later role) ≡ at_file_scope role
later_scope file_first = refl
later_scope _ = refl

later_initialised : (role : Role) → may_be_initialised (later role) ≡ may_be_initialised role
later_initialised file_first = refl
later_initialised _ = refl

later_inline : (role : Role) → is_inline_role (later role) ≡ is_inline_role role
later_inline file_first = refl
later_inline _ = refl

later_serves : (asked role : Role) → Serves asked role → Serves asked (later role)
later_serves asked role s = record {
  scope = λ h. later_scope role ∙ s.scope h;
  initialised = λ h. later_initialised role ∙ s.initialised h;
  no_inline = later_inline role ∙ s.no_inline;
}

suits_from : (role : Role) (tree : PlainTree) → is_inline_role role ≡ false → IsTrue (not (lacks tree)) → IsTrue (suits role tree)
suits_from file_inline tree e h = absurd (false≢true (sym e))
suits_from file_later tree e h = h
suits_from _ tree e h = refl

lacks_none :
    (b : Bool) (tree : PlainTree) (ps : PlainTrees) → IsTrue (not (b && lacks_parameters (more tree ps)))
    → IsTrue (not (b && lacks tree)) × IsTrue (not (b && lacks_parameters ps))
lacks_none false tree ps h = (refl, refl)
lacks_none true (leaf token) ps h = (refl, h)
lacks_none true (node kind qs) ps h =
    let both : _ × _ =
    or_parts (is_kind k.FunctionDeclarator kind && has_absent qs) (lacks_parameters ps)
    (not-true ((is_kind k.FunctionDeclarator kind && has_absent qs) || lacks_parameters ps) h) in
    (ap not both.0, ap not both.1)

-- no function stands elsewhere than at file scope
no_function : (asked : Role) (tree : PlainTree) → at_file_scope asked ≡ false → DeclaratorForm asked tree → lacks tree ≡ false
no_function asked (leaf token) e form = refl
no_function asked (node kind ps) e (plain_form s) = refl
no_function asked (node kind ps) e (array_form s) = refl
no_function asked (node kind ps) e (function_form h s) = absurd (false≢true (sym e ∙ h))

has_parameters :
    (asked : Role) (tree : PlainTree) (b : Bool) → at_file_scope asked ≡ b → IsTrue (is_a (declarator asked) tree)
    → IsTrue (not (b && lacks tree)) → IsTrue (not (lacks tree))
has_parameters asked tree true e h lacking = lacking
has_parameters asked tree false e h lacking = ap not (no_function asked tree e (declarator_form asked tree h))

clean :
    (asked : Role) (tree : PlainTree) (ps : PlainTrees) → IsTrue (is_a (declarator asked) tree)
    → IsTrue (not (at_file_scope asked && lacks_parameters (more tree ps)))
    → IsTrue (not (lacks tree)) × IsTrue (not (at_file_scope asked && lacks_parameters ps))
clean asked tree ps h lacking =
    let both : _ × _ = lacks_none (at_file_scope asked) tree ps lacking in
    (has_parameters asked tree (at_file_scope asked) refl h both.0, both.1)

declarable_end :
    (role : Role) (flavour : Flavour) → IsTrue (may_be_declared_so false flavour)
    → IsTrue (may_be_declared_so false (flavour_at (declarator_read role flavour)))
declarable_end file_first flavour h = h
declarable_end file_inline flavour h = h
declarable_end _ flavour h = refl

-- ---- lists of declarators

record DeclaredList (role : Role) (tree : PlainTree) (ps : PlainTrees) : Type 0 where
  ended : Place
  declarable_so : IsTrue (may_be_declared_so false (flavour_at ended))
  reads :
      (parts : List PlainTree) (frames : List (Frame PlainTree)) (rest : List PlainToken)
      → IsTrue (is_one_of (t.Semicolon ∷ []) (ahead rest))
      → entering (begins_declarator role) (frame (declarator_at role) parts ∷ frames) (written tree (all_written ps rest))
      ≡ arriving (node k.Declarators (trees (parts ++ tree ∷ listed ps))) ended frames rest

last_declarator : (role : Role) (tree : PlainTree) → IsTrue (not (lacks tree)) → DeclaratorRead role tree → DeclaredList role tree none
last_declarator role tree h r = record {
  ended = declarator_read role (flavour_at r.ended);
  declarable_so = declarable_end role (flavour_at r.ended) (r.declarable_so h);
  reads = λ parts frames rest follows.
      r.reads (frame (declarator_at role) parts ∷ frames) rest
      (one_of (λ x. IsTrue (is_one_of declarator_closers x)) (t.Semicolon ∷ []) (ahead rest) follows (refl, tt))
      ∙ finishing (declarator_read role (flavour_at r.ended)) (parts ++ tree ∷ []) frames rest k.Declarators
      (one_of (λ x. declarator_read_move role (flavour_at r.ended) x ≡ finishes k.Declarators) (t.Semicolon ∷ []) (ahead rest) follows
      (refl, tt));
}

further_declarator :
    (role : Role) (tree : PlainTree) (comma : PlainToken) (next : PlainTree) (qs : PlainTrees) → is_inline_role role ≡ false
    → IsTrue (not (lacks tree)) → DeclaratorRead role tree → IsTrue (is_one_of (t.Comma ∷ []) (terminal comma))
    → DeclaredList (later role) next qs → DeclaredList role tree (more (leaf comma) (more next qs))
further_declarator role tree comma next qs no_inline h r is_comma others =
    let flavour : Flavour = flavour_at r.ended in
    record {
      ended = others.ended;
      declarable_so = others.declarable_so;
      reads = λ parts frames rest follows.
          let tokens : List PlainToken = written next (all_written qs rest) in
          r.reads (frame (declarator_at role) parts ∷ frames) (comma ∷ tokens)
          (one_of (λ x. IsTrue (is_one_of declarator_closers x)) (t.Comma ∷ []) (terminal comma) is_comma (refl, tt))
          ∙ shifting (declarator_read role flavour) (parts ++ tree ∷ []) frames comma tokens (declarator_next (later role))
          (one_of (λ x. declarator_read_move role flavour x ≡ shifts (declarator_next (later role))) (t.Comma ∷ []) (terminal comma) is_comma (
            ap (λ b. if may_be_declared_so b flavour then shifts (declarator_next (later role)) else fails) no_inline
                ∙ ap (λ b. if b then shifts (declarator_next (later role)) else fails) (r.declarable_so h),
            tt,
          ))
          ∙ needing (declarator_next (later role)) ((parts ++ tree ∷ []) ++ leaf comma ∷ []) frames tokens (declarator_at (later role))
          (begins_declarator (later role)) refl
          ∙ others.reads ((parts ++ tree ∷ []) ++ leaf comma ∷ []) frames rest follows
          ∙ ap (λ ps. arriving (node k.Declarators (trees ps)) others.ended frames rest)
          (append_assoc (parts ++ tree ∷ []) (leaf comma ∷ []) (next ∷ listed qs)
          ∙ append_assoc parts (tree ∷ []) (leaf comma ∷ next ∷ listed qs));
    }

-- up to the initialiser
module _ (role : Role) (tree : PlainTree) (sign : PlainToken) (value : PlainTree) (no_inline : is_inline_role role ≡ false)
    (may : IsTrue (may_be_initialised role)) (h : IsTrue (not (lacks tree))) (r : DeclaratorRead role tree)
    (is_sign : IsTrue (is_one_of (t.Assign ∷ []) (terminal sign))) (readable : Readable value) (initialises : IsTrue (is_a initialiser value)) where
  initialised_reads :
      (parts : List PlainTree) (frames : List (Frame PlainTree)) (tokens : List PlainToken) → MayFollow initialiser value (ahead tokens)
      → entering (begins_declarator role) (frame (declarator_at role) parts ∷ frames) (written tree (sign ∷ written value tokens))
      ≡ reading (frame (initialiser_read role) (((parts ++ tree ∷ []) ++ leaf sign ∷ []) ++ value ∷ []) ∷ frames) tokens
  initialised_reads parts frames tokens follows =
      let flavour : Flavour = flavour_at r.ended in
      r.reads (frame (declarator_at role) parts ∷ frames) (sign ∷ written value tokens)
      (one_of (λ x. IsTrue (is_one_of declarator_closers x)) (t.Assign ∷ []) (terminal sign) is_sign (refl, tt))
      ∙ shifting (declarator_read role flavour) (parts ++ tree ∷ []) frames sign (written value tokens) (initialiser_next role)
      (one_of (λ x. declarator_read_move role flavour x ≡ shifts (initialiser_next role)) (t.Assign ∷ []) (terminal sign) is_sign (
        ap (λ b. if may_be_declared_so b flavour && may_be_initialised role then shifts (initialiser_next role) else fails) no_inline
            ∙ ap (λ b. if b && may_be_initialised role then shifts (initialiser_next role) else fails) (r.declarable_so h)
            ∙ ap (λ b. if b then shifts (initialiser_next role) else fails) may,
        tt,
      ))
      ∙ needing (initialiser_next role) ((parts ++ tree ∷ []) ++ leaf sign ∷ []) frames (written value tokens) (initialiser_read role)
      begins_initialiser refl
      ∙ readable.joins initialiser refl initialises (initialiser_read role) ((parts ++ tree ∷ []) ++ leaf sign ∷ []) frames tokens
      (λ ended. refl) follows

  last_initialised : DeclaredList role tree (more (leaf sign) (more value none))
  last_initialised = record {
    ended = initialiser_read role;
    declarable_so = refl;
    reads = λ parts frames rest follows.
        initialised_reads parts frames rest
        (one_of (λ x. MayFollow initialiser value x) (t.Semicolon ∷ []) (ahead rest) follows (refl, tt))
        ∙ finishing (initialiser_read role) (((parts ++ tree ∷ []) ++ leaf sign ∷ []) ++ value ∷ []) frames rest k.Declarators
        (one_of (λ x. move (initialiser_read role) x ≡ finishes k.Declarators) (t.Semicolon ∷ []) (ahead rest) follows (refl, tt))
        ∙ ap (λ ps. arriving (node k.Declarators (trees ps)) (initialiser_read role) frames rest)
        (append_assoc (parts ++ tree ∷ []) (leaf sign ∷ []) (value ∷ []) ∙ append_assoc parts (tree ∷ []) (leaf sign ∷ value ∷ []));
  }

  further_initialised :
      (comma : PlainToken) (next : PlainTree) (qs : PlainTrees) → IsTrue (is_one_of (t.Comma ∷ []) (terminal comma))
      → DeclaredList (later role) next qs
      → DeclaredList role tree (more (leaf sign) (more value (more (leaf comma) (more next qs))))
  further_initialised comma next qs is_comma others = record {
    ended = others.ended;
    declarable_so = others.declarable_so;
    reads = λ parts frames rest follows.
        let tokens : List PlainToken = written next (all_written qs rest) in
        let so_far : List PlainTree = ((parts ++ tree ∷ []) ++ leaf sign ∷ []) ++ value ∷ [] in
        initialised_reads parts frames (comma ∷ tokens)
        (one_of (λ x. MayFollow initialiser value x) (t.Comma ∷ []) (terminal comma) is_comma (refl, tt))
        ∙ shifting (initialiser_read role) so_far frames comma tokens (declarator_next (later role))
        (one_of (λ x. move (initialiser_read role) x ≡ shifts (declarator_next (later role))) (t.Comma ∷ []) (terminal comma) is_comma
        (refl, tt))
        ∙ needing (declarator_next (later role)) (so_far ++ leaf comma ∷ []) frames tokens (declarator_at (later role))
        (begins_declarator (later role)) refl
        ∙ others.reads (so_far ++ leaf comma ∷ []) frames rest follows
        ∙ ap (λ ps. arriving (node k.Declarators (trees ps)) others.ended frames rest)
        (append_assoc so_far (leaf comma ∷ []) (next ∷ listed qs)
        ∙ append_assoc ((parts ++ tree ∷ []) ++ leaf sign ∷ []) (value ∷ []) (leaf comma ∷ next ∷ listed qs)
        ∙ append_assoc (parts ++ tree ∷ []) (leaf sign ∷ []) (value ∷ leaf comma ∷ next ∷ listed qs)
        ∙ append_assoc parts (tree ∷ []) (leaf sign ∷ value ∷ leaf comma ∷ next ∷ listed qs));
  }

-- behind a declarator there is a comma or an initialiser
sign_case :
    (asked role : Role) (tree : PlainTree) (sign : PlainToken) (next : PlainTree) (qs : PlainTrees) (b : Bool) → is_inline_role role ≡ false
    → is_one_of (t.Comma ∷ []) (terminal sign) ≡ b
    → IsTrue
    (if b then is_a (declarator asked) next && may_follow_declarator asked qs
    else is_one_of (t.Assign ∷ []) (terminal sign) && may_be_initialised asked && is_a initialiser next && may_follow_initialiser asked qs)
    → IsTrue (not (lacks tree)) → DeclaratorRead role tree
    → (IsTrue (is_a (declarator asked) next) → IsTrue (may_follow_declarator asked qs) → DeclaredList (later role) next qs)
    → (IsTrue (is_one_of (t.Assign ∷ []) (terminal sign)) → IsTrue (may_be_initialised asked) → IsTrue (is_a initialiser next)
    → IsTrue (may_follow_initialiser asked qs) → DeclaredList role tree (more (leaf sign) (more next qs)))
    → DeclaredList role tree (more (leaf sign) (more next qs))
sign_case asked role tree sign next qs true no_inline e h has r further assigned =
    let both : _ × _ = and_parts (is_a (declarator asked) next) (may_follow_declarator asked qs) h in
    further_declarator role tree sign next qs no_inline has r e (further both.0 both.1)
sign_case asked role tree sign next qs false no_inline e h has r further assigned =
    let outer : _ × _ =
    and_parts (is_one_of (t.Assign ∷ []) (terminal sign) && may_be_initialised asked && is_a initialiser next) (may_follow_initialiser asked qs) h in
    let middle : _ × _ = and_parts (is_one_of (t.Assign ∷ []) (terminal sign) && may_be_initialised asked) (is_a initialiser next) outer.0 in
    let inner : _ × _ = and_parts (is_one_of (t.Assign ∷ []) (terminal sign)) (may_be_initialised asked) middle.0 in
    assigned inner.0 inner.1 middle.1 outer.1

read_first :
    (asked role : Role) (tree : PlainTree) → Serves asked role → IsTrue (is_a (declarator asked) tree) → IsTrue (not (lacks tree))
    → Readable tree → DeclaratorRead role tree
read_first asked role tree s h has readable = readable.declarator_reads asked role h s.scope (suits_from role tree s.no_inline has)

declared_list :
    (asked role : Role) (tree : PlainTree) (ps : PlainTrees) → Serves asked role → IsTrue (is_a (declarator asked) tree)
    → IsTrue (may_follow_declarator asked ps) → IsTrue (not (at_file_scope asked && lacks_parameters (more tree ps))) → AllReadable (more tree ps)
    → DeclaredList role tree ps
declared_list asked role tree none s h follow lacking all =
    let has : IsTrue (not (lacks tree)) = (clean asked tree none h lacking).0 in
    last_declarator role tree has (read_first asked role tree s h has all.0)
declared_list asked role tree (more (node kind inner) none) s h follow lacking all = absurd (false≢true follow)
declared_list asked role tree (more (node kind inner) (more next qs)) s h follow lacking all = absurd (false≢true follow)
declared_list asked role tree (more (leaf sign) none) s h follow lacking all = absurd (false≢true follow)
declared_list asked role tree (more (leaf sign) (more next none)) s h follow lacking all =
    let lack : _ × _ = clean asked tree (more (leaf sign) (more next none)) h lacking in
    let r : DeclaratorRead role tree = read_first asked role tree s h lack.0 all.0 in
    sign_case asked role tree sign next none (is_one_of (t.Comma ∷ []) (terminal sign)) s.no_inline refl follow lack.0 r
    (λ a b. declared_list asked (later role) next none (later_serves asked role s) a b lack.1 (all.1).1)
    (λ a b c d. last_initialised role tree sign next s.no_inline (s.initialised b) lack.0 r a ((all.1).1).0 c)
declared_list asked role tree (more (leaf sign) (more next (more (node kind inner) ps))) s h follow lacking all =
    let lack : _ × _ = clean asked tree (more (leaf sign) (more next (more (node kind inner) ps))) h lacking in
    let r : DeclaratorRead role tree = read_first asked role tree s h lack.0 all.0 in
    sign_case asked role tree sign next (more (node kind inner) ps) (is_one_of (t.Comma ∷ []) (terminal sign)) s.no_inline refl follow lack.0 r
    (λ a b. declared_list asked (later role) next (more (node kind inner) ps) (later_serves asked role s) a b lack.1 (all.1).1)
    (λ a b c d. absurd (false≢true d))
declared_list asked role tree (more (leaf sign) (more next (more (leaf comma) none))) s h follow lacking all =
    let lack : _ × _ = clean asked tree (more (leaf sign) (more next (more (leaf comma) none))) h lacking in
    let r : DeclaratorRead role tree = read_first asked role tree s h lack.0 all.0 in
    sign_case asked role tree sign next (more (leaf comma) none) (is_one_of (t.Comma ∷ []) (terminal sign)) s.no_inline refl follow lack.0 r
    (λ a b. declared_list asked (later role) next (more (leaf comma) none) (later_serves asked role s) a b lack.1 (all.1).1)
    (λ a b c d. absurd (false≢true (and_parts (is_one_of (t.Comma ∷ []) (terminal comma)) false d).1))
declared_list asked role tree (more (leaf sign) (more next (more (leaf comma) (more other ps)))) s h follow lacking all =
    let qs : PlainTrees = more (leaf comma) (more other ps) in
    let lack : _ × _ = clean asked tree (more (leaf sign) (more next qs)) h lacking in
    let r : DeclaratorRead role tree = read_first asked role tree s h lack.0 all.0 in
    sign_case asked role tree sign next (more (leaf comma) (more other ps)) (is_one_of (t.Comma ∷ []) (terminal sign)) s.no_inline refl follow
    lack.0 r
    (λ a b. declared_list asked (later role) next (more (leaf comma) (more other ps)) (later_serves asked role s) a b lack.1 (all.1).1)
    (λ a b c d.
    let both : _ × _ = and_parts (is_one_of (t.Comma ∷ []) (terminal comma)) (are_declared asked (more other ps)) d in
    let head : _ × _ = and_parts (is_a (declarator asked) other) (may_follow_declarator asked ps) both.1 in
    further_initialised role tree sign next s.no_inline (s.initialised b) lack.0 r a ((all.1).1).0 c comma other ps both.0
    (declared_list asked (later role) other ps (later_serves asked role s) head.0 head.1 (lacks_none (at_file_scope asked) next qs lack.1).1 (((all.1).1).1).1))

-- ---- declarations in blocks and structs

declared_joins :
    (role : Role) → at_file_scope role ≡ false → Serves role role → (kind : Kind) (ps : PlainTrees) → Formed (declarators role) kind ps
    → AllReadable ps → (place : Place) (parts : List PlainTree) (frames : List (Frame PlainTree)) (rest : List PlainToken)
    → ((ended : Place) → back place ended ≡ place) → IsTrue (is_one_of (t.Semicolon ∷ []) (ahead rest))
    → entering (begins_declarators role) (frame place parts ∷ frames) (all_written ps rest)
    ≡ reading (frame place (parts ++ node kind ps ∷ []) ∷ frames) rest
declared_joins role e s k.Declarators none f all place parts frames rest steady follows = absurd (false≢true f.shaped_so)
declared_joins role e s k.Declarators (more tree ps) f all place parts frames rest steady follows =
    let both : _ × _ = and_parts (is_a (declarator role) tree) (may_follow_declarator role ps) f.shaped_so in
    let r : DeclaredList role tree ps =
    declared_list role role tree ps s both.0 both.1 (ap (λ b. not (b && lacks_parameters (more tree ps))) e) all in
    entering_around (declarator_at role) (begins_declarators role) (begins_declarator role) (frame place parts ∷ frames)
    (written tree (all_written ps rest)) refl
    ∙ r.reads [] (frame place parts ∷ frames) rest follows
    ∙ ap (λ p. reading (frame p (parts ++ node k.Declarators (trees (tree ∷ listed ps)) ∷ []) ∷ frames) rest) (steady r.ended)
    ∙ ap (λ ps. reading (frame place (parts ++ node k.Declarators (more tree ps) ∷ []) ∷ frames) rest) (trees_listed ps)
declared_joins role e s _ ps f all place parts frames rest steady follows = absurd (false≢true f.belongs_there)

local_serves : Serves local local
local_serves = record { scope = λ h. h; initialised = λ h. h; no_inline = refl }

member_serves : Serves member_of member_of
member_serves = record { scope = λ h. h; initialised = λ h. h; no_inline = refl }

file_serves : Serves file_first file_first
file_serves = record { scope = λ h. h; initialised = λ h. h; no_inline = refl }

pub local_joins : (tree : PlainTree) → AllParts tree → IsTrue (is_a (declarators local) tree) → Joins (declarators local) tree
local_joins (leaf token) all h = absurd (false≢true h)
local_joins (node kind ps) all h = declared_joins local refl local_serves kind ps (formed (declarators local) kind ps h) all

pub member_of_joins : (tree : PlainTree) → AllParts tree → IsTrue (is_a (declarators member_of) tree) → Joins (declarators member_of) tree
member_of_joins (leaf token) all h = absurd (false≢true h)
member_of_joins (node kind ps) all h = declared_joins member_of refl member_serves kind ps (formed (declarators member_of) kind ps h) all

-- ---- at file scope

declaration_node_read :
    (ps : PlainTrees) → IsTrue (are_declared file_first ps) → AllReadable ps → IsTrue (not (lacks_parameters ps))
    → DeclarationRead (node k.Declarators ps)
declaration_node_read none h all lacking = absurd (false≢true h)
declaration_node_read (more tree ps) h all lacking =
    let both : _ × _ = and_parts (is_a (declarator file_first) tree) (may_follow_declarator file_first ps) h in
    let r : DeclaredList file_first tree ps = declared_list file_first file_first tree ps file_serves both.0 both.1 lacking all in
    record {
      ended = r.ended;
      reads = λ frames rest follows.
          entering_around (declarator_at file_first) (begins_declarators file_first) (begins_declarator file_first) frames
          (written tree (all_written ps rest)) refl
          ∙ r.reads [] frames rest follows
          ∙ ap (λ ps. arriving (node k.Declarators (more tree ps)) r.ended frames rest) (trees_listed ps);
      declarable_so = r.declarable_so;
    }

pub declaration_read_as :
    (tree : PlainTree) → AllParts tree → IsTrue (is_a (declarators file_first) tree) → IsTrue (may_be_declarators tree) → DeclarationRead tree
declaration_read_as (leaf token) all h lacking = absurd (false≢true h)
declaration_read_as (node k.Declarators ps) all h lacking =
    declaration_node_read ps (formed (declarators file_first) k.Declarators ps h).shaped_so all lacking
declaration_read_as (node kind ps) all h lacking = absurd (false≢true (formed (declarators file_first) kind ps h).belongs_there)

first_scope : (inline : Bool) → IsTrue (at_file_scope (first_role inline))
first_scope true = refl
first_scope false = refl

first_suits : (inline : Bool) (tree : PlainTree) → IsTrue (defines tree) → IsTrue (suits (first_role inline) tree)
first_suits true tree h = h
first_suits false tree h = refl

first_flavour : (inline : Bool) (flavour : Flavour) → flavour_at (declarator_read (first_role inline) flavour) ≡ flavour
first_flavour true flavour = refl
first_flavour false flavour = refl

lone_definition :
    (inline : Bool) (tree : PlainTree) → IsTrue (defines tree) → DeclaratorRead (first_role inline) tree
    → DefinitionRead inline (node k.Declarators (more tree none))
lone_definition inline tree h r =
    let role : Role = first_role inline in
    record {
      ended = declarator_read role (flavour_at r.ended);
      reads = λ frames rest follows.
          entering_around (declarator_at role) (begins_declarators role) (begins_declarator role) frames (written tree rest) refl
          ∙ r.reads (frame (declarator_at role) [] ∷ frames) rest
          (one_of (λ x. IsTrue (is_one_of declarator_closers x)) (t.OpenBrace ∷ []) (ahead rest) follows (refl, tt))
          ∙ finishing (declarator_read role (flavour_at r.ended)) (tree ∷ []) frames rest k.Declarators
          (one_of (λ x. declarator_read_move role (flavour_at r.ended) x ≡ finishes k.Declarators) (t.OpenBrace ∷ []) (ahead rest) follows
          (refl, tt));
      definable_so = ap may_be_defined_so (first_flavour inline (flavour_at r.ended)) ∙ r.definable_so h;
    }

definition_node_read :
    (inline : Bool) (ps : PlainTrees) → IsTrue (are_declared file_first ps) → AllReadable ps
    → IsTrue (defines_function (node k.Declarators ps)) → DefinitionRead inline (node k.Declarators ps)
definition_node_read inline none h all defined = absurd (false≢true h)
definition_node_read inline (more (leaf token) none) h all defined = absurd (false≢true defined)
definition_node_read inline (more (leaf token) (more next ps)) h all defined = absurd (false≢true defined)
definition_node_read inline (more (node kind qs) (more next ps)) h all defined = absurd (false≢true defined)
definition_node_read inline (more (node kind qs) none) h all defined =
    let both : _ × _ = and_parts (is_a (declarator file_first) (node kind qs)) true h in
    lone_definition inline (node kind qs) defined
    (all.0.declarator_reads file_first (first_role inline) both.0 (λ e. first_scope inline) (first_suits inline (node kind qs) defined))

pub definition_read_as :
    (inline : Bool) (tree : PlainTree) → AllParts tree → IsTrue (is_a (declarators file_first) tree) → IsTrue (defines_function tree)
    → DefinitionRead inline tree
definition_read_as inline (leaf token) all h defined = absurd (false≢true h)
definition_read_as inline (node k.Declarators ps) all h defined =
    definition_node_read inline ps (formed (declarators file_first) k.Declarators ps h).shaped_so all defined
definition_read_as inline (node kind ps) all h defined = absurd (false≢true (formed (declarators file_first) kind ps h).belongs_there)
