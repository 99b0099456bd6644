-- Steps in judging parameters.
use Rattle.std.proofs.Common.{◌≡◌, ℕ, suc, ◌+◌, ◌*◌, ◌<◌, ◌≤◌, Bool, true, false, List, [], ◌∷◌, ◌++◌, length, drop, get_or, refl, sym, ap, arith, ◌∙◌}
use Rattle.std.proofs.Math.Seq.{drop-cons}
use Rattle.std.proofs.Math.ListN.{drop_of_length-le}
use Rattle.c_tree.specs.declared.trees.Tree.{Tree}
use Rattle.plain_declarators.specs.Words.{behind_comma, next_behind}
use Rattle.plain_declarators.specs.Progress.{Continues, continues_on, continues_to, continues_refused}
use Rattle.std.specs.Prelude.{Option, Some, None}
use Rattle.std.proofs.lemmas.List.{append-nil}
use Rattle.c_text.specs.Token.{PlainToken}
use Rattle.c_types.specs.Types.{PlainType}
use Rattle.c_tree.specs.declared.kinds.Kind.{Kind}
use Rattle.c_tree.specs.declared.kinds.Kind.TheVariants as k
use Rattle.c_tree.specs.Trees.{PlainTree, PlainTrees, leaf, node, none, more, plain_tree, plain_trees}
use Rattle.core_meaning.specs.declared.refusals.TypeKind.TheVariants.{Redeclared}
use Rattle.core_meaning.specs.Checking.{Binding, Checked, fine, refused, broken, with_bindings, ◌>>=◌, give, unless_so}
use Rattle.core_meaning.specs.Entities.{Scope}
use Rattle.core_meaning.specs.Declarations.{Parameter, parameter_type, judged_parameter, with_parameter, is_new_parameter, token_of, name_in, declares_name, parameter_entity, declared_parameter, based, one_parameter, parameters_from}
use Rattle.plain_scope.specs.declared.errors.ElabError.{ElabError}
use Rattle.plain_scope.specs.Judgements.{Gives, RefusedAs}
use Rattle.plain_scope.specs.JudgementLaws.{gives_nothing_used, refused_first, refused_then}
use Rattle.c_tree.specs.declared.terminals.Terminal.TheVariants as t
use Rattle.c_tree.specs.Grammar.{are_words, is_absent, is_lone_void}
use Rattle.std.proofs.Common.{◌&&◌}
use Rattle.plain_declarators.specs.Words.{is_absence, is_nothing}
use Rattle.plain_scope.specs.Parts.{parts_in}
use Rattle.core_meaning.specs.Expressions.{first_token}
use Rattle.plain_declarators.specs.Sequences.{gives_next, refused_next, gives_of, refused_of}

-- a parameter without a declarator
abbrev pub nameless : Bool → Scope → PlainType → PlainToken → Checked Parameter
nameless defining scope ty first = do
  judged ← judged_parameter defining scope ty first
  give (record { name = None; ty = ty })

abbrev pub named_type : Bool → Scope → PlainType → Kind → PlainTrees → PlainToken → Checked PlainType
named_type defining scope ty kind parts at = do
  whole ← parameter_type scope ty kind parts at
  judged ← judged_parameter defining scope whole at
  give whole

-- a parameter with a declarator
abbrev pub named : Bool → Scope → List Parameter → PlainType → PlainToken → Kind → PlainTrees → Checked Parameter
named defining scope before ty first kind parts = do
  new ← unless_so (is_new_parameter before (name_in parts)) Redeclared (token_of (name_in parts) first)
  bound ← declares_name (name_in parts) (parameter_entity defining (length before))
  whole ← named_type defining scope ty kind parts (token_of (name_in parts) first)
  give (record { name = name_in parts; ty = whole })

tested : {A D : Type 0} (bindings : List Binding) (t : Checked (Unit {0})) (x : A) (f : A → D) → (with_bindings bindings (t >>= (λ u. give x)) >>= (λ y. give (f y))) ≡ with_bindings bindings (t >>= (λ u. give (f x)))
tested bindings (fine u others) x f = rw (append-nil (bindings ++ (others ++ []))) refl
tested bindings (refused kind token) x f = refl
tested bindings broken x f = refl

given_behind : {A D : Type 0} (c : Checked A) (test : A → Checked (Unit {0})) (f : A → D) → ((c >>= (λ x. test x >>= (λ u. give x))) >>= (λ x. give (f x))) ≡ (c >>= (λ x. test x >>= (λ u. give (f x))))
given_behind (refused kind token) test f = refl
given_behind broken test f = refl
given_behind (fine x bindings) test f = tested bindings (test x) x f

named_as_declared : (defining : Bool) (scope : Scope) (before : List Parameter) (ty : PlainType) (first : PlainToken) (kind : Kind) (parts : PlainTrees) → let at : PlainToken = token_of (name_in parts) first in (unless_so (is_new_parameter before (name_in parts)) Redeclared at >>= (λ new. declares_name (name_in parts) (parameter_entity defining (length before)) >>= (λ bound. parameter_type scope ty kind parts at >>= (λ whole. judged_parameter defining scope whole at >>= (λ judged. give (record { name = name_in parts; ty = whole })))))) ≡ named defining scope before ty first kind parts
named_as_declared defining scope before ty first kind parts =
    let at = token_of (name_in parts) first in
    ap (λ (c : Checked Parameter). unless_so (is_new_parameter before (name_in parts)) Redeclared at >>= (λ new. declares_name (name_in parts) (parameter_entity defining (length before)) >>= (λ bound. c))) (sym (given_behind (parameter_type scope ty kind parts at) (λ whole. judged_parameter defining scope whole at) (λ whole. record { name = name_in parts; ty = whole })))

-- behind the binding of a parameter, which is no name of file scope
pub name_bound : {B : Type 0} (name : Option PlainToken) (defining : Bool) (slot : ℕ) (next : Unit {0} → Checked B) (y : B) (before after : List ℕ → Bool) → Gives (next tt) y before after → Gives (declares_name name (parameter_entity defining slot) >>= next) y before after
name_bound None defining slot next y before after g = gives_next (declares_name None (parameter_entity defining slot)) next tt y before after refl g
name_bound (Some name) true slot next y before after g = record {
  bindings = record { entity = parameter_entity true slot; in_expression = false } ∷ g.bindings;
  judged = ap (with_bindings (record { entity = parameter_entity true slot; in_expression = false } ∷ [])) g.judged;
  used = g.used;
}
name_bound (Some name) false slot next y before after g = record {
  bindings = record { entity = parameter_entity false slot; in_expression = false } ∷ g.bindings;
  judged = ap (with_bindings (record { entity = parameter_entity false slot; in_expression = false } ∷ [])) g.judged;
  used = g.used;
}

pub name_refused : {B : Type 0} (name : Option PlainToken) (defining : Bool) (slot : ℕ) (next : Unit {0} → Checked B) (error : ElabError) → RefusedAs (next tt) error → RefusedAs (declares_name name (parameter_entity defining slot) >>= next) error
name_refused None defining slot next error r = refused_next (declares_name None (parameter_entity defining slot)) next tt error refl r
name_refused (Some name) defining slot next error r = refused_then (declares_name (Some name) (parameter_entity defining slot)) next tt (record { entity = parameter_entity defining slot; in_expression = false } ∷ []) error refl r

-- ---- parameters by their declarators

named_node : (defining : Bool) (scope : Scope) (before : List Parameter) (ty : PlainType) (first : PlainToken) (kind : Kind) (parts : PlainTrees) → is_absence kind ≡ false → declared_parameter defining scope before ty first (node kind parts) ≡ named defining scope before ty first kind parts
named_node defining scope before ty first k.Absent parts is = cc
named_node defining scope before ty first other parts is = named_as_declared defining scope before ty first other parts

nameless_node : (defining : Bool) (scope : Scope) (before : List Parameter) (ty : PlainType) (first : PlainToken) (kind : Kind) (parts : PlainTrees) → is_absence kind ≡ true → declared_parameter defining scope before ty first (node kind parts) ≡ nameless defining scope ty first
nameless_node defining scope before ty first k.Absent parts is = refl
nameless_node defining scope before ty first other parts is = cc

pub named_gives : (defining : Bool) (scope : Scope) (before : List Parameter) (ty : PlainType) (first : PlainToken) (kind : Kind) (parts : PlainTrees) (given : Parameter) (old new : List ℕ → Bool) → is_absence kind ≡ false → Gives (named defining scope before ty first kind parts) given old new → Gives (declared_parameter defining scope before ty first (node kind parts)) given old new
named_gives defining scope before ty first kind parts given old new is g =
    gives_of (declared_parameter defining scope before ty first (node kind parts)) (named defining scope before ty first kind parts) given old new (named_node defining scope before ty first kind parts is) g

pub named_refused : (defining : Bool) (scope : Scope) (before : List Parameter) (ty : PlainType) (first : PlainToken) (kind : Kind) (parts : PlainTrees) (error : ElabError) → is_absence kind ≡ false → RefusedAs (named defining scope before ty first kind parts) error → RefusedAs (declared_parameter defining scope before ty first (node kind parts)) error
named_refused defining scope before ty first kind parts error is r =
    refused_of (declared_parameter defining scope before ty first (node kind parts)) (named defining scope before ty first kind parts) error (named_node defining scope before ty first kind parts is) r

pub nameless_gives : (defining : Bool) (scope : Scope) (before : List Parameter) (ty : PlainType) (first : PlainToken) (kind : Kind) (parts : PlainTrees) (given : Parameter) (old : List ℕ → Bool) → is_absence kind ≡ true → nameless defining scope ty first ≡ give given → Gives (declared_parameter defining scope before ty first (node kind parts)) given old old
nameless_gives defining scope before ty first kind parts given old is g =
    gives_nothing_used (declared_parameter defining scope before ty first (node kind parts)) given old (nameless_node defining scope before ty first kind parts is ∙ g)

pub nameless_refused : (defining : Bool) (scope : Scope) (before : List Parameter) (ty : PlainType) (first : PlainToken) (kind : Kind) (parts : PlainTrees) (error : ElabError) → is_absence kind ≡ true → RefusedAs (nameless defining scope ty first) error → RefusedAs (declared_parameter defining scope before ty first (node kind parts)) error
nameless_refused defining scope before ty first kind parts error is r =
    refused_of (declared_parameter defining scope before ty first (node kind parts)) (nameless defining scope ty first) error (nameless_node defining scope before ty first kind parts is) r

pub ruleset by_declarator = (named_gives, named_refused, nameless_gives, nameless_refused)

abbrev pub words_then : Bool → Scope → List Parameter → PlainTrees → PlainTree → PlainToken → Checked Parameter
words_then defining scope before words declarator first = do
  base ← based false scope words
  declared_parameter defining scope before base.ty first declarator

parameter_node : (defining : Bool) (scope : Scope) (before : List Parameter) (tree words declarator : PlainTree) (parts naming : PlainTrees) (behind first : PlainToken) → parts_in tree ≡ Some parts → parts ≡ more words (more declarator none) → parts_in words ≡ Some naming → first ≡ first_token words behind → one_parameter defining scope before tree behind ≡ words_then defining scope before naming declarator first
parameter_node defining scope before (leaf token) words declarator parts naming behind first a b c d = cc
parameter_node defining scope before (node kind given) (leaf token) declarator parts naming behind first a b c d = cc
parameter_node defining scope before (node kind given) (node other inner) declarator parts naming behind first a b c d =
    let e : given ≡ more (node other inner) (more declarator none) = cc in
    let f : inner ≡ naming = cc in
    ap (λ l. one_parameter defining scope before (node kind l) behind) e ∙ ap (λ t. words_then defining scope before inner declarator t) (sym d) ∙ ap (λ l. words_then defining scope before l declarator first) f

pub parameter_gives : (defining : Bool) (scope : Scope) (before : List Parameter) (tree words declarator : PlainTree) (parts naming : PlainTrees) (behind first : PlainToken) (given : Parameter) (old new : List ℕ → Bool) → parts_in tree ≡ Some parts → parts ≡ more words (more declarator none) → parts_in words ≡ Some naming → first ≡ first_token words behind → Gives (words_then defining scope before naming declarator first) given old new → Gives (one_parameter defining scope before tree behind) given old new
parameter_gives defining scope before tree words declarator parts naming behind first given old new a b c d g =
    gives_of (one_parameter defining scope before tree behind) (words_then defining scope before naming declarator first) given old new (parameter_node defining scope before tree words declarator parts naming behind first a b c d) g

pub parameter_refused : (defining : Bool) (scope : Scope) (before : List Parameter) (tree words declarator : PlainTree) (parts naming : PlainTrees) (behind first : PlainToken) (error : ElabError) → parts_in tree ≡ Some parts → parts ≡ more words (more declarator none) → parts_in words ≡ Some naming → first ≡ first_token words behind → RefusedAs (words_then defining scope before naming declarator first) error → RefusedAs (one_parameter defining scope before tree behind) error
parameter_refused defining scope before tree words declarator parts naming behind first error a b c d r =
    refused_of (one_parameter defining scope before tree behind) (words_then defining scope before naming declarator first) error (parameter_node defining scope before tree words declarator parts naming behind first a b c d) r

-- ---- the parameters of a list

-- the parameters from one on, behind those before them
abbrev pub parameters_at : Bool → Scope → List Parameter → ℕ → List Tree → PlainToken → Checked (List Parameter)
parameters_at defining scope before n list behind = parameters_from defining scope before (plain_trees (drop (2 * n) list)) behind

-- what is visible behind parameters and one more
abbrev pub with_one : Scope → List Parameter → Parameter → Scope
with_one scope before p = with_parameter scope (length before) p.name p.ty

one_then : (defining : Bool) (scope : Scope) (before : List Parameter) (tree : PlainTree) (rest : PlainTrees) (behind : PlainToken) → parameters_from defining scope before (more tree rest) behind ≡ (one_parameter defining scope before tree behind >>= (λ p. parameters_from defining (with_one scope before p) (before ++ p ∷ []) (behind_comma rest) behind))
one_then defining scope before tree none behind = refl
one_then defining scope before tree (more comma rest) behind = refl

next_parameter : (defining : Bool) (scope : Scope) (before : List Parameter) (n : ℕ) (list : List Tree) (tree : Tree) (behind : PlainToken) → 2 * n < length list → tree ≡ get_or list (2 * n) tree → parameters_at defining scope before n list behind ≡ (one_parameter defining scope before (plain_tree tree) behind >>= (λ p. parameters_at defining (with_one scope before p) (before ++ p ∷ []) (n + 1) list behind))
next_parameter defining scope before n list tree behind inside is =
    let front : drop (2 * n) list ≡ tree ∷ drop (suc (2 * n)) list = drop-cons list (2 * n) tree inside ∙ ap (λ t. t ∷ drop (suc (2 * n)) list) (sym is) in
    let two : suc (suc (2 * n)) ≡ 2 * (n + 1) = omega arith in
    let last : behind_comma (plain_trees (drop (suc (2 * n)) list)) ≡ plain_trees (drop (2 * (n + 1)) list) = next_behind (suc (2 * n)) list ∙ ap (λ k. plain_trees (drop k list)) two in
    ap (λ l. parameters_from defining scope before (plain_trees l) behind) front
    ∙ one_then defining scope before (plain_tree tree) (plain_trees (drop (suc (2 * n)) list)) behind
    ∙ ap (λ l. one_parameter defining scope before (plain_tree tree) behind >>= (λ p. parameters_from defining (with_one scope before p) (before ++ p ∷ []) l behind)) last

-- what is left of a list behind one parameter
pub parameters_continue : (defining : Bool) (scope after : Scope) (before all : List Parameter) (n : ℕ) (list : List Tree) (tree : Tree) (behind : PlainToken) (p : Parameter) (whole : Checked (List Parameter)) (old between new : List ℕ → Bool) → 2 * n < length list → tree ≡ get_or list (2 * n) tree → Continues whole (parameters_at defining scope before n list behind) (λ found. found) old between → Gives (one_parameter defining scope before (plain_tree tree) behind) p between new → all ≡ before ++ p ∷ [] → after ≡ with_one scope before p → Continues whole (parameters_at defining after all (n + 1) list behind) (λ found. found) old new
parameters_continue defining scope after before all n list tree behind p whole old between new inside is c g with_p within_p =
    rw (with_p, within_p) (continues_on whole (parameters_at defining scope before n list behind) (λ found. found) old between new (one_parameter defining scope before (plain_tree tree) behind) (λ q. parameters_at defining (with_one scope before q) (before ++ q ∷ []) (n + 1) list behind) p c (next_parameter defining scope before n list tree behind inside is) g)

pub parameters_refused : (defining : Bool) (scope : Scope) (before : List Parameter) (n : ℕ) (list : List Tree) (tree : Tree) (behind : PlainToken) (error : ElabError) (whole : Checked (List Parameter)) (old between : List ℕ → Bool) → 2 * n < length list → tree ≡ get_or list (2 * n) tree → Continues whole (parameters_at defining scope before n list behind) (λ found. found) old between → RefusedAs (one_parameter defining scope before (plain_tree tree) behind) error → RefusedAs whole error
parameters_refused defining scope before n list tree behind error whole old between inside is c r =
    continues_refused whole (parameters_at defining scope before n list behind) (λ found. found) old between error c (refused_of (parameters_at defining scope before n list behind) (one_parameter defining scope before (plain_tree tree) behind >>= (λ p. parameters_at defining (with_one scope before p) (before ++ p ∷ []) (n + 1) list behind)) error (next_parameter defining scope before n list tree behind inside is) (refused_first (one_parameter defining scope before (plain_tree tree) behind) (λ p. parameters_at defining (with_one scope before p) (before ++ p ∷ []) (n + 1) list behind) error r))

no_parameter_left : (defining : Bool) (scope : Scope) (before : List Parameter) (n : ℕ) (list : List Tree) (behind : PlainToken) → length list ≤ 2 * n → parameters_at defining scope before n list behind ≡ give before
no_parameter_left defining scope before n list behind over = rw (drop_of_length-le list {i = 2 * n} over) refl

pub parameters_end : (defining : Bool) (scope : Scope) (all : List Parameter) (n : ℕ) (list : List Tree) (behind : PlainToken) (whole : Checked (List Parameter)) (old new : List ℕ → Bool) → length list ≤ 2 * n → Continues whole (parameters_at defining scope all n list behind) (λ found. found) old new → Gives whole all old new
parameters_end defining scope all n list behind whole old new over c =
    continues_to whole (parameters_at defining scope all n list behind) (λ found. found) old new new all c (gives_nothing_used (parameters_at defining scope all n list behind) all new (no_parameter_left defining scope all n list behind over))

-- ---- the lone `void`

abbrev pub are_void : PlainTree → Bool
are_void (leaf token) = false
are_void (node kind words) = are_words (t.Void ∷ []) words

abbrev pub is_void_parameter : PlainTrees → Bool
is_void_parameter (more words (more declarator others)) = is_nothing others && are_void words && is_absent declarator
is_void_parameter other = false

abbrev pub is_void_node : PlainTree → Bool
is_void_node (leaf token) = false
is_void_node (node kind parts) = is_void_parameter parts

pub lone_void : (tree : PlainTree) (rest : PlainTrees) → is_lone_void (more tree rest) ≡ (is_nothing rest && is_void_node tree)
lone_void (leaf token) none = refl
lone_void (leaf token) (more other others) = refl
lone_void (node kind none) none = refl
lone_void (node kind (more (leaf token) none)) none = refl
lone_void (node kind (more (node inner words) none)) none = refl
lone_void (node kind (more (leaf token) (more second none))) none = refl
lone_void (node kind (more (node inner words) (more second none))) none = refl
lone_void (node kind (more (leaf token) (more second (more third others)))) none = refl
lone_void (node kind (more (node inner words) (more second (more third others)))) none = refl
lone_void (node kind none) (more next behind) = refl
lone_void (node kind (more (leaf token) none)) (more next behind) = refl
lone_void (node kind (more (node inner words) none)) (more next behind) = refl
lone_void (node kind (more (leaf token) (more second none))) (more next behind) = refl
lone_void (node kind (more (node inner words) (more second none))) (more next behind) = refl
lone_void (node kind (more (leaf token) (more second (more third others)))) (more next behind) = refl
lone_void (node kind (more (node inner words) (more second (more third others)))) (more next behind) = refl
