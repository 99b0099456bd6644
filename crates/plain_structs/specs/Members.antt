-- Steps in declaring the members of a struct.
use Rattle.std.proofs.Common.{◌≡◌, ℕ, ◌+◌, ◌-◌, ◌<◌, ◌≤◌, Bool, false, List, [], ◌∷◌, length, get_or, drop, refl, ap, arith, ◌∙◌, ◌⊎◌, inl, inr}
use Rattle.std.proofs.Math.ListN.{drop_of_length-le}
use Rattle.std.proofs.lemmas.Bool.{cases_lt}
use Rattle.std.proofs.lemmas.List.{drop-drop, length-drop}
use Rattle.std.specs.Prelude.{Some, None}
use Rattle.c_text.specs.Token.{PlainToken}
use Rattle.c_types.specs.Types.{PlainType}
use Rattle.c_tree.specs.declared.kinds.Kind.{Kind}
use Rattle.c_tree.specs.declared.trees.Tree.{Tree}
use Rattle.c_tree.specs.Trees.{PlainTrees, node, plain_tree, plain_trees}
use Rattle.core_meaning.specs.declared.refusals.TypeKind.TheVariants.{Incomplete}
use Rattle.core_meaning.specs.Checking.{Entity, Checked, ◌>>=◌, with_bindings, give, unless_so, declares}
use Rattle.core_meaning.specs.Entities.{Scope}
use Rattle.core_meaning.specs.Typing.{is_complete}
use Rattle.core_meaning.specs.Declarations.{name_in, object_type}
use Rattle.core_meaning.specs.UnitNames.{Members, with_member, declared_member, one_member, members_from}
use Rattle.plain_scope.specs.Judgements.{Gives, RefusedAs}
use Rattle.plain_scope.specs.JudgementLaws.{refused_first, refused_then}
use Rattle.plain_declarators.specs.Sequences.{bind_nothing, gives_of, refused_of}
use Rattle.plain_scope.specs.declared.errors.ElabError.{ElabError}
use Rattle.plain_structs.specs.Leading.{front, Leads, leads_with, leads_to, leads_refused}

abbrev pub complete_member : Scope → Members → PlainType → PlainToken → Checked Members
complete_member scope known whole name = do
  complete ← unless_so (is_complete scope.structs whole) Incomplete name
  give (with_member scope.structs known name.text whole)

abbrev pub typed_member : Scope → Members → PlainType → Kind → PlainTrees → PlainToken → Checked Members
typed_member scope known ty kind parts name = do
  whole ← object_type scope ty kind parts name None
  complete_member scope known whole name

-- behind the binding of a name that is declared
pub member_bound : {B : Type 0} (entity : Entity) (next : Unit {0} → Checked B) (y : B) (before after : List ℕ → Bool) → Gives (next tt) y before after → Gives (declares entity >>= next) y before after
member_bound entity next y before after g = record {
  bindings = record { entity = entity; in_expression = false } ∷ g.bindings;
  judged = ap (with_bindings (record { entity = entity; in_expression = false } ∷ [])) g.judged;
  used = g.used;
}

pub member_refused : {B : Type 0} (entity : Entity) (next : Unit {0} → Checked B) (error : ElabError) → RefusedAs (next tt) error → RefusedAs (declares entity >>= next) error
member_refused entity next error r = refused_then (declares entity) next tt (record { entity = entity; in_expression = false } ∷ []) error refl r

named_member : (scope : Scope) (number : ℕ) (known : Members) (ty : PlainType) (kind : Kind) (parts : PlainTrees) (name : PlainToken) → name_in parts ≡ Some name → one_member scope number known ty (node kind parts) ≡ declared_member scope number known ty kind parts name
named_member scope number known ty kind parts name is = rw is (bind_nothing (declared_member scope number known ty kind parts name))

pub named_gives : (scope : Scope) (number : ℕ) (known : Members) (ty : PlainType) (kind : Kind) (parts : PlainTrees) (name : PlainToken) (given : Members) (before after : List ℕ → Bool) → name_in parts ≡ Some name → Gives (declared_member scope number known ty kind parts name) given before after → Gives (one_member scope number known ty (node kind parts)) given before after
named_gives scope number known ty kind parts name given before after is g = gives_of (one_member scope number known ty (node kind parts)) (declared_member scope number known ty kind parts name) given before after (named_member scope number known ty kind parts name is) g

pub named_refused : (scope : Scope) (number : ℕ) (known : Members) (ty : PlainType) (kind : Kind) (parts : PlainTrees) (name : PlainToken) (error : ElabError) → name_in parts ≡ Some name → RefusedAs (declared_member scope number known ty kind parts name) error → RefusedAs (one_member scope number known ty (node kind parts)) error
named_refused scope number known ty kind parts name error is r = refused_of (one_member scope number known ty (node kind parts)) (declared_member scope number known ty kind parts name) error (named_member scope number known ty kind parts name is) r

-- ---- the members of a list

one_and_more : (scope : Scope) (number : ℕ) (known : Members) (ty : PlainType) (tree : Tree) (rest : List Tree) → 0 < length rest → members_from scope number known ty (plain_trees (tree ∷ rest)) ≡ (one_member scope number known ty (plain_tree tree) >>= (λ first. members_from scope number first ty (plain_trees (drop 1 rest))))
one_and_more scope number known ty tree [] inside = absurd (omega arith)
one_and_more scope number known ty tree (comma ∷ others) inside = refl

-- a member, and those behind the comma
next_member : (scope : Scope) (number : ℕ) (known : Members) (ty : PlainType) (list : List Tree) (tree : Tree) (n : ℕ) → n + 1 < length list → tree ≡ get_or list n tree → members_from scope number known ty (plain_trees (drop n list)) ≡ (one_member scope number known ty (plain_tree tree) >>= (λ first. members_from scope number first ty (plain_trees (drop (n + 2) list))))
next_member scope number known ty list tree n inside is =
    let two : n + 1 + 1 ≡ n + 2 = omega arith in
    let left : length (drop (n + 1) list) ≡ length list - (n + 1) = length-drop (n + 1) list in
    let others : drop 1 (drop (n + 1) list) ≡ drop (n + 2) list = drop-drop 1 (n + 1) list ∙ ap (λ m. drop m list) two in
    ap (λ l. members_from scope number known ty (plain_trees l)) (front list tree n (omega arith) is) ∙ one_and_more scope number known ty tree (drop (n + 1) list) (omega (arith, left)) ∙ ap (λ l. one_member scope number known ty (plain_tree tree) >>= (λ first. members_from scope number first ty (plain_trees l))) others

-- the last member
last_member : (scope : Scope) (number : ℕ) (known : Members) (ty : PlainType) (list : List Tree) (tree : Tree) (n : ℕ) → n + 1 ≡ length list → tree ≡ get_or list n tree → members_from scope number known ty (plain_trees (drop n list)) ≡ one_member scope number known ty (plain_tree tree)
last_member scope number known ty list tree n at_end is =
    let nothing : drop (n + 1) list ≡ [] = drop_of_length-le list {i = n + 1} (omega (arith, at_end)) in
    ap (λ l. members_from scope number known ty (plain_trees l)) (front list tree n (omega (arith, at_end)) is ∙ ap (λ l. tree ∷ l) nothing)

first_member : (scope : Scope) (number : ℕ) (known : Members) (ty : PlainType) (list : List Tree) (tree : Tree) (n : ℕ) (error : ElabError) → tree ≡ get_or list n tree → RefusedAs (one_member scope number known ty (plain_tree tree)) error → n < length list → (n + 1 < length list) ⊎ (length list ≤ n + 1) → RefusedAs (members_from scope number known ty (plain_trees (drop n list))) error
first_member scope number known ty list tree n error is r inside (inl more) =
    refused_of (members_from scope number known ty (plain_trees (drop n list))) (one_member scope number known ty (plain_tree tree) >>= (λ first. members_from scope number first ty (plain_trees (drop (n + 2) list)))) error (next_member scope number known ty list tree n more is)
    (refused_first (one_member scope number known ty (plain_tree tree)) (λ first. members_from scope number first ty (plain_trees (drop (n + 2) list))) error r)
first_member scope number known ty list tree n error is r inside (inr over) =
    refused_of (members_from scope number known ty (plain_trees (drop n list))) (one_member scope number known ty (plain_tree tree)) error (last_member scope number known ty list tree n (omega (arith, inside, over)) is) r

pub members_refused : (whole : Checked Members) (scope : Scope) (number : ℕ) (known : Members) (ty : PlainType) (list : List Tree) (tree : Tree) (n : ℕ) (before between : List ℕ → Bool) (error : ElabError) → n < length list → tree ≡ get_or list n tree → Leads whole (members_from scope number known ty (plain_trees (drop n list))) before between → RefusedAs (one_member scope number known ty (plain_tree tree)) error → RefusedAs whole error
members_refused whole scope number known ty list tree n before between error inside is l r =
    leads_refused whole (members_from scope number known ty (plain_trees (drop n list))) before between error l (first_member scope number known ty list tree n error is r inside (cases_lt (n + 1) (length list)))

pub members_continue : (whole : Checked Members) (scope : Scope) (number : ℕ) (known behind : Members) (ty : PlainType) (list : List Tree) (tree : Tree) (n : ℕ) (before between after : List ℕ → Bool) → n + 1 < length list → tree ≡ get_or list n tree → Leads whole (members_from scope number known ty (plain_trees (drop n list))) before between → Gives (one_member scope number known ty (plain_tree tree)) behind between after → Leads whole (members_from scope number behind ty (plain_trees (drop (n + 2) list))) before after
members_continue whole scope number known behind ty list tree n before between after inside is l g =
    leads_with whole (members_from scope number known ty (plain_trees (drop n list))) (one_member scope number known ty (plain_tree tree)) (λ first. members_from scope number first ty (plain_trees (drop (n + 2) list))) behind before between after l (next_member scope number known ty list tree n inside is) g

pub members_end : (whole : Checked Members) (scope : Scope) (number : ℕ) (known behind : Members) (ty : PlainType) (list : List Tree) (tree : Tree) (n : ℕ) (before between after : List ℕ → Bool) → n + 1 ≡ length list → tree ≡ get_or list n tree → Leads whole (members_from scope number known ty (plain_trees (drop n list))) before between → Gives (one_member scope number known ty (plain_tree tree)) behind between after → Gives whole behind before after
members_end whole scope number known behind ty list tree n before between after at_end is l g =
    leads_to whole (members_from scope number known ty (plain_trees (drop n list))) behind before between after l (gives_of (members_from scope number known ty (plain_trees (drop n list))) (one_member scope number known ty (plain_tree tree)) behind between after (last_member scope number known ty list tree n at_end is) g)
