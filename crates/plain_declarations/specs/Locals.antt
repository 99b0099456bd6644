-- Steps in judging the declarations of locals.
use Rattle.std.proofs.Common.{◌≡◌, ℕ, ◌+◌, ◌<◌, ◌≤◌, Bool, true, false, ◌||◌, List, [], ◌∷◌, ◌++◌, length, map, drop, refl, sym, ap, arith, ◌∙◌, ◌⊎◌, inl, inr}
use Rattle.std.specs.Prelude.{Option, Some, None, if◌then◌else◌}
use Rattle.c_text.specs.Token.{PlainToken}
use Rattle.c_types.specs.Types.{PlainType}
use Rattle.c_tree.specs.declared.terminals.Terminal.TheVariants as t
use Rattle.c_tree.specs.Trees.{PlainTree, PlainTrees, leaf, node, none, more, plain_tree, plain_trees}
use Rattle.c_tree.specs.declared.trees.Tree.{Tree}
use Rattle.c_tree.specs.Grammar.{is_word}
use Rattle.core_meaning.specs.Program.{PlainPart}
use Rattle.core_meaning.specs.Checking.{local_entity, Checked, fine, refused, broken, with_bindings, unless_so, ◌>>=◌, give, declares}
use Rattle.core_meaning.specs.Entities.{Scope}
use Rattle.core_meaning.specs.Declarations.{LocalItem, Locals, with_local, plain_part, local_initial, one_local, with_items, locals_from, based, judged_locals, judged_object, is_new_local, object_type, declared_local, name_in}
use Rattle.std.proofs.Math.Path.{fun_ext}
use Rattle.std.proofs.lemmas.Bool.{cases_lt}
use Rattle.std.proofs.lemmas.Cmp.{nat_eq_equiv}
use Rattle.std.proofs.lemmas.List.{append-nil, append_assoc}
use Rattle.c_tree.specs.declared.kinds.Kind.{Kind}
use Rattle.core_meaning.specs.declared.refusals.TypeKind.TheVariants.{Redeclared}
use Rattle.plain_scope.specs.Parts.{parts_in}
use Rattle.plain_scope.specs.Parts as parts
use Rattle.c_tree.specs.declared.terminals.Terminal.{Terminal}
use Rattle.c_tree.specs.Terminals.{terminal, same, number}
use Rattle.plain_scope.specs.declared.errors.ElabError.{ElabError}
use Rattle.plain_scope.specs.Judgements.{Gives, RefusedAs}
use Rattle.plain_scope.specs.JudgementLaws.{refused_first, refused_then}
use Rattle.plain_declarators.specs.Progress.{Continues, continues_with, continues_to, continues_refused}
use Rattle.plain_declarators.specs.Sequences.{bind_nothing, gives_of, refused_of}

-- ---- initialisers

abbrev pub parts_given : Scope → PlainType → PlainToken → Option PlainTree → Checked (List PlainPart)
parts_given scope ty name initialiser = do
  given ← local_initial scope ty name initialiser
  give (map plain_part given)

-- ---- one local

abbrev pub placed_local : Scope → List PlainType → ℕ → PlainType → PlainToken → Option PlainTree → Checked Locals
placed_local scope slots slot whole name initialiser = do
  given ← parts_given (with_local scope name.text slot whole) whole name initialiser
  give (record {
    scope = with_local scope name.text slot whole;
    slots = slots ++ whole ∷ [];
    items = record { slot = slot; parts = given } ∷ [];
  })

abbrev pub typed_local : Scope → List PlainType → PlainType → PlainToken → Option PlainTree → Checked Locals
typed_local scope slots whole name initialiser = do
  judged ← judged_object scope whole name
  placed_local scope slots (length slots) whole name initialiser

-- a local is declared where its type is judged, then its initialiser
abbrev pub local_by_type : Scope → List PlainType → PlainType → Kind → PlainTrees → PlainToken → Option PlainTree → Checked Locals
local_by_type scope slots ty kind parts name initialiser = do
  new ← unless_so (is_new_local scope name.text) Redeclared name
  bound ← declares (local_entity (length slots))
  whole ← object_type scope ty kind parts name initialiser
  typed_local scope slots whole name initialiser

-- behind the binding of a local
pub local_bound : {B : Type 0} (slot : ℕ) (next : Unit {0} → Checked B) (y : B) (before after : List ℕ → Bool) → Gives (next tt) y before after → Gives (declares (local_entity slot) >>= next) y before after
local_bound slot next y before after g = record {
  bindings = record { entity = local_entity slot; in_expression = false } ∷ g.bindings;
  judged = ap (with_bindings (record { entity = local_entity slot; in_expression = false } ∷ [])) g.judged;
  used = g.used;
}

pub local_refused : {B : Type 0} (slot : ℕ) (next : Unit {0} → Checked B) (error : ElabError) → RefusedAs (next tt) error → RefusedAs (declares (local_entity slot) >>= next) error
local_refused slot next error r = refused_then (declares (local_entity slot)) next tt (record { entity = local_entity slot; in_expression = false } ∷ []) error refl r

or_none : (b : Bool) → (b || false) ≡ b
or_none true = refl
or_none false = refl

given_together : {A B D : Type 0} (c : Checked A) (f : A → B) (g : B → D) → (c >>= (λ x. give (f x)) >>= (λ y. give (g y))) ≡ (c >>= (λ x. give (g (f x))))
given_together (fine x bindings) f g = rw (append-nil (bindings ++ [])) refl
given_together (refused kind token) f g = refl
given_together broken f g = refl

-- the definition, with the steps above
pub declared_by_type : (scope : Scope) (slots : List PlainType) (ty : PlainType) (kind : Kind) (parts : PlainTrees) (name : PlainToken) (initialiser : Option PlainTree) → declared_local scope slots ty kind parts name initialiser ≡ local_by_type scope slots ty kind parts name initialiser
declared_by_type scope slots ty kind parts name initialiser =
    let n = length slots in
    ap (λ (f : PlainType → Checked Locals). unless_so (is_new_local scope name.text) Redeclared name >>= (λ new. declares (local_entity n) >>= (λ bound. object_type scope ty kind parts name initialiser >>= f)))
    (fun_ext (λ whole. ap (λ (c : Checked Locals). judged_object scope whole name >>= (λ judged. c)) (sym (given_together (local_initial (with_local scope name.text n whole) whole name initialiser) (map plain_part) (λ given. record { scope = with_local scope name.text n whole; slots = slots ++ whole ∷ []; items = record { slot = n; parts = given } ∷ [] })))))

named_local : (scope : Scope) (slots : List PlainType) (ty : PlainType) (kind : Kind) (parts : PlainTrees) (name : PlainToken) (initialiser : Option PlainTree) → name_in parts ≡ Some name → one_local scope slots ty (node kind parts) initialiser ≡ local_by_type scope slots ty kind parts name initialiser
named_local scope slots ty kind parts name initialiser is = rw is (bind_nothing (declared_local scope slots ty kind parts name initialiser)) ∙ declared_by_type scope slots ty kind parts name initialiser

pub named_gives : (scope : Scope) (slots : List PlainType) (ty : PlainType) (kind : Kind) (parts : PlainTrees) (name : PlainToken) (initialiser : Option PlainTree) (given : Locals) (before after : List ℕ → Bool) → name_in parts ≡ Some name → Gives (local_by_type scope slots ty kind parts name initialiser) given before after → Gives (one_local scope slots ty (node kind parts) initialiser) given before after
named_gives scope slots ty kind parts name initialiser given before after is g =
    gives_of (one_local scope slots ty (node kind parts) initialiser) (local_by_type scope slots ty kind parts name initialiser) given before after (named_local scope slots ty kind parts name initialiser is) g

pub named_refused : (scope : Scope) (slots : List PlainType) (ty : PlainType) (kind : Kind) (parts : PlainTrees) (name : PlainToken) (initialiser : Option PlainTree) (error : ElabError) → name_in parts ≡ Some name → RefusedAs (local_by_type scope slots ty kind parts name initialiser) error → RefusedAs (one_local scope slots ty (node kind parts) initialiser) error
named_refused scope slots ty kind parts name initialiser error is r =
    refused_of (one_local scope slots ty (node kind parts) initialiser) (local_by_type scope slots ty kind parts name initialiser) error (named_local scope slots ty kind parts name initialiser is) r

-- ---- the locals of a declaration

-- what stands behind a declarator's sign, if the sign says that it initialises
abbrev pub initialiser_by : PlainTree → PlainTree → Option PlainTree
initialiser_by sign next = if parts.is_word t.Assign sign then Some next else None

-- the first local of a list of declarators
abbrev pub first_local : Scope → List PlainType → PlainType → PlainTrees → Checked Locals
first_local scope slots ty none = broken
first_local scope slots ty (more tree none) = one_local scope slots ty tree None
first_local scope slots ty (more tree (more sign none)) = broken
first_local scope slots ty (more tree (more sign (more next rest))) = one_local scope slots ty tree (initialiser_by sign next)

-- how many trees of a list are its first declarator with what initialises it
abbrev pub first_size : PlainTrees → ℕ
first_size none = 1
first_size (more tree none) = 1
first_size (more tree (more sign rest)) = if parts.is_word t.Assign sign then 3 else 1

-- the locals of a declaration, by its words and declarators
abbrev pub locals_of : Scope → List PlainType → PlainTrees → PlainTrees → Checked Locals
locals_of scope slots words declarators = do
  base ← based false scope words
  locals_from scope slots base.ty declarators

one_word : (wanted : Terminal) (tree : PlainTree) → is_word (wanted ∷ []) tree ≡ parts.is_word wanted tree
one_word wanted (leaf token) = or_none (same (terminal token) wanted) ∙ nat_eq_equiv.symm (number (terminal token)) (number wanted)
one_word wanted (node kind parts) = refl

-- a local, and those behind it
abbrev pub then_locals : PlainType → Checked Locals → PlainTrees → Checked Locals
then_locals ty one rest = do
  first ← one
  others ← locals_from first.scope first.slots ty rest
  give (with_items first.items others)

by_sign : (scope : Scope) (slots : List PlainType) (ty : PlainType) (tree sign next comma : PlainTree) (rest : PlainTrees) → locals_from scope slots ty (more tree (more sign (more next (more comma rest)))) ≡ (if parts.is_word t.Assign sign then then_locals ty (one_local scope slots ty tree (Some next)) rest else then_locals ty (one_local scope slots ty tree None) (more next (more comma rest)))
by_sign scope slots ty tree sign next comma rest = ap (λ b. if b then then_locals ty (one_local scope slots ty tree (Some next)) rest else then_locals ty (one_local scope slots ty tree None) (more next (more comma rest))) (one_word t.Assign sign)

by_last_sign : (scope : Scope) (slots : List PlainType) (ty : PlainType) (tree sign next : PlainTree) → locals_from scope slots ty (more tree (more sign (more next none))) ≡ (if parts.is_word t.Assign sign then one_local scope slots ty tree (Some next) else then_locals ty (one_local scope slots ty tree None) (more next none))
by_last_sign scope slots ty tree sign next = ap (λ b. if b then one_local scope slots ty tree (Some next) else then_locals ty (one_local scope slots ty tree None) (more next none)) (one_word t.Assign sign)

more_behind : (scope : Scope) (slots : List PlainType) (ty : PlainType) (a b c d : Tree) (rest : List Tree) (sign : Bool) → (if sign then then_locals ty (one_local scope slots ty (plain_tree a) (Some (plain_tree c))) (plain_trees rest) else then_locals ty (one_local scope slots ty (plain_tree a) None) (plain_trees (c ∷ d ∷ rest))) ≡ then_locals ty (one_local scope slots ty (plain_tree a) (if sign then Some (plain_tree c) else None)) (plain_trees (drop ((if sign then 3 else 1) + 1) (a ∷ b ∷ c ∷ d ∷ rest)))
more_behind scope slots ty a b c d rest true = refl
more_behind scope slots ty a b c d rest false = refl

one_behind : (scope : Scope) (slots : List PlainType) (ty : PlainType) (a b c : Tree) (sign : Bool) → (if sign then 3 else 1) < 3 → (if sign then one_local scope slots ty (plain_tree a) (Some (plain_tree c)) else then_locals ty (one_local scope slots ty (plain_tree a) None) (plain_trees (c ∷ []))) ≡ then_locals ty (one_local scope slots ty (plain_tree a) (if sign then Some (plain_tree c) else None)) (plain_trees (drop ((if sign then 3 else 1) + 1) (a ∷ b ∷ c ∷ [])))
one_behind scope slots ty a b c true small = absurd (omega arith)
one_behind scope slots ty a b c false small = refl

none_behind : (scope : Scope) (slots : List PlainType) (ty : PlainType) (a c : Tree) (sign : Bool) → 3 ≤ (if sign then 3 else 1) → (if sign then one_local scope slots ty (plain_tree a) (Some (plain_tree c)) else then_locals ty (one_local scope slots ty (plain_tree a) None) (plain_trees (c ∷ []))) ≡ one_local scope slots ty (plain_tree a) (if sign then Some (plain_tree c) else None)
none_behind scope slots ty a c true large = refl
none_behind scope slots ty a c false large = absurd (omega arith)

-- behind the first local of a list
next_local : (scope : Scope) (slots : List PlainType) (ty : PlainType) (list : List Tree) → first_size (plain_trees list) < length list → locals_from scope slots ty (plain_trees list) ≡ then_locals ty (first_local scope slots ty (plain_trees list)) (plain_trees (drop (first_size (plain_trees list) + 1) list))
next_local scope slots ty [] inside = absurd (omega arith)
next_local scope slots ty (a ∷ []) inside = absurd (omega arith)
next_local scope slots ty (a ∷ b ∷ []) inside = refl
next_local scope slots ty (a ∷ b ∷ c ∷ []) inside =
    by_last_sign scope slots ty (plain_tree a) (plain_tree b) (plain_tree c) ∙ one_behind scope slots ty a b c (parts.is_word t.Assign (plain_tree b)) inside
next_local scope slots ty (a ∷ b ∷ c ∷ d ∷ rest) inside =
    by_sign scope slots ty (plain_tree a) (plain_tree b) (plain_tree c) (plain_tree d) (plain_trees rest) ∙ more_behind scope slots ty a b c d rest (parts.is_word t.Assign (plain_tree b))

three_at_most : (sign : Bool) → (if sign then 3 else 1) ≤ 3
three_at_most true = omega arith
three_at_most false = omega arith

-- the last local of a list
last_local : (scope : Scope) (slots : List PlainType) (ty : PlainType) (list : List Tree) → length list ≤ first_size (plain_trees list) → locals_from scope slots ty (plain_trees list) ≡ first_local scope slots ty (plain_trees list)
last_local scope slots ty [] over = refl
last_local scope slots ty (a ∷ []) over = refl
last_local scope slots ty (a ∷ b ∷ []) over = refl
last_local scope slots ty (a ∷ b ∷ c ∷ []) over =
    by_last_sign scope slots ty (plain_tree a) (plain_tree b) (plain_tree c) ∙ none_behind scope slots ty a c (parts.is_word t.Assign (plain_tree b)) over
last_local scope slots ty (a ∷ b ∷ c ∷ d ∷ rest) over =
    let most = three_at_most (parts.is_word t.Assign (plain_tree b)) in absurd (omega arith)

locals_first : (scope : Scope) (slots : List PlainType) (ty : PlainType) (list : List Tree) (error : ElabError) → RefusedAs (first_local scope slots ty (plain_trees list)) error → (first_size (plain_trees list) < length list) ⊎ (length list ≤ first_size (plain_trees list)) → RefusedAs (locals_from scope slots ty (plain_trees list)) error
locals_first scope slots ty list error r (inl inside) =
    refused_of (locals_from scope slots ty (plain_trees list)) (then_locals ty (first_local scope slots ty (plain_trees list)) (plain_trees (drop (first_size (plain_trees list) + 1) list))) error (next_local scope slots ty list inside) (refused_first (first_local scope slots ty (plain_trees list)) (λ first. locals_from first.scope first.slots ty (plain_trees (drop (first_size (plain_trees list) + 1) list)) >>= (λ others. give (with_items first.items others))) error r)
locals_first scope slots ty list error r (inr over) =
    refused_of (locals_from scope slots ty (plain_trees list)) (first_local scope slots ty (plain_trees list)) error (last_local scope slots ty list over) r

-- ---- how far a loop over declarators has come

pub locals_refused : (scope : Scope) (slots : List PlainType) (ty : PlainType) (list : List Tree) (items : List LocalItem) (error : ElabError) (whole : Checked Locals) (before between : List ℕ → Bool) → Continues whole (locals_from scope slots ty (plain_trees list)) (with_items items) before between → RefusedAs (first_local scope slots ty (plain_trees list)) error → RefusedAs whole error
locals_refused scope slots ty list items error whole before between c r =
    continues_refused whole (locals_from scope slots ty (plain_trees list)) (with_items items) before between error c (locals_first scope slots ty list error r (cases_lt (first_size (plain_trees list)) (length list)))

items_so_far : (items added : List LocalItem) (y : Locals) → with_items items (with_items added y) ≡ with_items (items ++ added) y
items_so_far items added y = ap (λ l. record y { items = l }) (sym (append_assoc items added y.items))

pub locals_continue : (scope : Scope) (slots : List PlainType) (ty : PlainType) (list : List Tree) (items all : List LocalItem) (given : Locals) (whole : Checked Locals) (before between after : List ℕ → Bool) → first_size (plain_trees list) < length list → Continues whole (locals_from scope slots ty (plain_trees list)) (with_items items) before between → Gives (first_local scope slots ty (plain_trees list)) given between after → all ≡ items ++ given.items → Continues whole (locals_from given.scope given.slots ty (plain_trees (drop (first_size (plain_trees list) + 1) list))) (with_items all) before after
locals_continue scope slots ty list items all given whole before between after inside c g with_all =
    continues_with whole (locals_from scope slots ty (plain_trees list)) (with_items items) before between after (first_local scope slots ty (plain_trees list)) (λ first. locals_from first.scope first.slots ty (plain_trees (drop (first_size (plain_trees list) + 1) list))) (λ first others. with_items first.items others) given (with_items all) c (next_local scope slots ty list inside) g (λ y. items_so_far items given.items y ∙ ap (λ l. with_items l y) (sym with_all))

pub locals_end : (scope : Scope) (slots : List PlainType) (ty : PlainType) (list : List Tree) (items : List LocalItem) (given : Locals) (whole : Checked Locals) (before between after : List ℕ → Bool) → length list ≤ first_size (plain_trees list) → Continues whole (locals_from scope slots ty (plain_trees list)) (with_items items) before between → Gives (first_local scope slots ty (plain_trees list)) given between after → Gives whole (with_items items given) before after
locals_end scope slots ty list items given whole before between after over c g =
    continues_to whole (locals_from scope slots ty (plain_trees list)) (with_items items) before between after given c (gives_of (locals_from scope slots ty (plain_trees list)) (first_local scope slots ty (plain_trees list)) given between after (last_local scope slots ty list over) g)

-- the words and declarators of a declaration
locals_by_parts : (scope : Scope) (slots : List PlainType) (words list end : PlainTree) (naming declarators : PlainTrees) → parts_in words ≡ Some naming → parts_in list ≡ Some declarators → judged_locals scope slots (more words (more list (more end none))) ≡ locals_of scope slots naming declarators
locals_by_parts scope slots (leaf token) list end naming declarators a b = cc
locals_by_parts scope slots (node kind words) (leaf token) end naming declarators a b = cc
locals_by_parts scope slots (node kind words) (node other list) end naming declarators a b =
    let e : words ≡ naming = cc in
    let f : list ≡ declarators = cc in
    ap (λ w. locals_of scope slots w list) e ∙ ap (λ l. locals_of scope slots naming l) f

pub parts_give : (scope : Scope) (slots : List PlainType) (parts : PlainTrees) (words list end : PlainTree) (naming declarators : PlainTrees) (given : Locals) (before after : List ℕ → Bool) → parts ≡ more words (more list (more end none)) → parts_in words ≡ Some naming → parts_in list ≡ Some declarators → Gives (locals_of scope slots naming declarators) given before after → Gives (judged_locals scope slots parts) given before after
parts_give scope slots parts words list end naming declarators given before after is a b g =
    gives_of (judged_locals scope slots parts) (locals_of scope slots naming declarators) given before after (ap (judged_locals scope slots) is ∙ locals_by_parts scope slots words list end naming declarators a b) g

pub parts_refused : (scope : Scope) (slots : List PlainType) (parts : PlainTrees) (words list end : PlainTree) (naming declarators : PlainTrees) (error : ElabError) → parts ≡ more words (more list (more end none)) → parts_in words ≡ Some naming → parts_in list ≡ Some declarators → RefusedAs (locals_of scope slots naming declarators) error → RefusedAs (judged_locals scope slots parts) error
parts_refused scope slots parts words list end naming declarators error is a b r =
    refused_of (judged_locals scope slots parts) (locals_of scope slots naming declarators) error (ap (judged_locals scope slots) is ∙ locals_by_parts scope slots words list end naming declarators a b) r
