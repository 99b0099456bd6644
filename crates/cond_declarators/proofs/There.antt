-- The structs that types are made of are there.
use Rattle.std.proofs.Common.{◌≡◌, ℕ, Bool, true, false, List, [], length, refl, sym, ap, ◌∙◌, subst}
use Rattle.std.specs.Prelude.{Option, Some, None, slice_get, ⊤, if◌then◌else◌}
use Rattle.c_text.specs.Token.{PlainToken}
use Rattle.c_types.specs.Types.{PlainType, array_of, structure}
use Rattle.c_tree.specs.declared.kinds.Kind.{Kind}
use Rattle.c_tree.specs.declared.kinds.Kind.TheVariants as k
use Rattle.c_tree.specs.declared.terminals.Terminal.TheVariants as t
use Rattle.c_tree.specs.Trees.{PlainTree, PlainTrees, leaf, node}
use Rattle.bindings.proofs.Tags.{last_there}
use Rattle.core_meaning.specs.declared.refusals.TypeKind.TheVariants.{Incomplete}
use Rattle.core_meaning.specs.Checking as judging
use Rattle.core_meaning.specs.Checking.{Binding, with_bindings, ◌>>=◌, give, unless_so, or_broken}
use Rattle.core_meaning.specs.Entities.{Struct, Scope}
use Rattle.core_meaning.specs.Expressions.{has_terminal, arithmetic_words}
use Rattle.core_meaning.specs.Typing.{is_complete}
use Rattle.core_meaning.specs.Declarations.{Based, based_on_tag, based, name_in, new_struct, starred, behind_word, element_count, object_type}
use Rattle.operand_types.specs.OperandTypes.{struct_in}
use Rattle.type_tables.specs.Tables.{Tables}
use Rattle.type_tables.specs.Follows.{IsThere, Follows}
use Rattle.cond_declarators.specs.Types.{based_in, object_type_in}
use Rattle.cond_declarators.specs.Laws.{BasesAreThere, ObjectsAreThere}
use Rattle.cond_declarators.proofs.WordTypes.{arithmetic_without}
use Rattle.cond_declarators.proofs.DeclaratorTypes.{starred_there}

-- what holds of the value that a judgement comes to
abbrev pub Whole : {A : Type 0} → (A → Type 0) → judging.Checked A → Type 0
Whole P (judging.fine x bindings) = P x
Whole P (judging.refused kind token) = ⊤
Whole P judging.broken = ⊤

pub whole_of : {A : Type 0} (P : A → Type 0) (c : judging.Checked A) (x : A) (bindings : List Binding) → Whole P c → c ≡ judging.fine x bindings → P x
whole_of P c x bindings holds is = subst (Whole P) is holds

some_same : {A : Type 0} (x y : A) → Some x ≡ Some y → x ≡ y
some_same x y e = cc

abbrev pub BaseIsThere : Based → Type 0
BaseIsThere b = IsThere b.scope.structs b.ty

struct_there : (structs : List Struct) (n : ℕ) → ((s : Struct) × (slice_get structs n ≡ Some s)) → IsThere structs (structure n)
struct_there structs n found m e = (found.0, ap (slice_get structs) (sym (some_same n m e)) ∙ found.1)

pub nothing_there : (structs : List Struct) (ty : PlainType) → struct_in ty ≡ None → IsThere structs ty
nothing_there structs ty none n e = absurd cc

pub tag_there : (declaring : Bool) (tables : Tables) (scope : Scope) (f : Follows tables scope) (tag : PlainToken) (o : Option ℕ) → scope.tags tag.text ≡ o → Whole BaseIsThere (based_on_tag declaring scope tag o)
tag_there declaring tables scope f tag (Some n) is = struct_there scope.structs n (f.tagged tag.text n is)
tag_there false tables scope f tag None is = tt
tag_there true tables scope f tag None is = struct_there _ (length scope.structs) (new_struct tag.text, last_there scope.structs (new_struct tag.text))

named_there : (declaring : Bool) (tables : Tables) (scope : Scope) (f : Follows tables scope) (name : Option PlainToken)
    → Whole BaseIsThere (or_broken name >>= (λ tag. based_on_tag declaring scope tag (scope.tags tag.text)))
named_there declaring tables scope f None = tt
named_there declaring tables scope f (Some tag) = given (based_on_tag declaring scope tag (scope.tags tag.text)) (tag_there declaring tables scope f tag (scope.tags tag.text) refl)
  where
    given : (c : judging.Checked Based) → Whole BaseIsThere c → Whole BaseIsThere (with_bindings [] c)
    given (judging.fine b bindings) h = h
    given (judging.refused kind token) h = h
    given judging.broken h = h

words_there : (declaring : Bool) (tables : Tables) (scope : Scope) (f : Follows tables scope) (words : PlainTrees) → Whole BaseIsThere (based declaring scope words)
words_there declaring tables scope f words = by (has_terminal t.Struct words)
  where
    by : (b : Bool) → Whole BaseIsThere (if b then or_broken (name_in words) >>= (λ tag. based_on_tag declaring scope tag (scope.tags tag.text)) else give (record { ty = arithmetic_words words; scope = scope }))
    by true = named_there declaring tables scope f (name_in words)
    by false = nothing_there scope.structs (arithmetic_words words) (arithmetic_without words)

tree_there : (declaring : Bool) (tables : Tables) (scope : Scope) (f : Follows tables scope) (words : PlainTree) → Whole BaseIsThere (based_in declaring scope words)
tree_there declaring tables scope f (leaf token) = tt
tree_there declaring tables scope f (node kind words) = words_there declaring tables scope f words

pub bases_are_there : BasesAreThere
bases_are_there declaring tables scope f words b bindings is = whole_of BaseIsThere (based_in declaring scope words) b bindings (tree_there declaring tables scope f words) is

-- ---- declarators

arrays_there : (structs : List Struct) (complete : Bool) (name : PlainToken) (element : PlainType) (count : judging.Checked ℕ) → IsThere structs element
    → Whole (IsThere structs) (unless_so complete Incomplete name >>= (λ u. count >>= (λ n. give (array_of element n))))
arrays_there structs true name element (judging.fine n bindings) there = there
arrays_there structs true name element (judging.refused kind token) there = tt
arrays_there structs true name element judging.broken there = tt
arrays_there structs false name element count there = tt

by_kind_there : (scope : Scope) (ty : PlainType) → IsThere scope.structs ty → (kind : Kind) (parts : PlainTrees) (name : PlainToken) (initialiser : Option PlainTree)
    → Whole (IsThere scope.structs) (object_type scope ty kind parts name initialiser)
by_kind_there scope ty there k.ArrayDeclarator parts name initialiser =
    arrays_there scope.structs (is_complete scope.structs (starred parts ty)) name (starred parts ty) (element_count scope (starred parts ty) name (behind_word t.OpenBracket parts) initialiser)
    (starred_there scope.structs parts ty there)
by_kind_there scope ty there k.Declarator parts name initialiser = starred_there scope.structs parts ty there
by_kind_there scope ty there kind parts name initialiser = tt

object_there : (scope : Scope) (ty : PlainType) → IsThere scope.structs ty → (declarator : PlainTree) (name : PlainToken) (initialiser : Option PlainTree)
    → Whole (IsThere scope.structs) (object_type_in scope ty declarator name initialiser)
object_there scope ty there (leaf token) name initialiser = tt
object_there scope ty there (node kind parts) name initialiser = by_kind_there scope ty there kind parts name initialiser

pub objects_are_there : ObjectsAreThere
objects_are_there scope ty there declarator name initialiser whole bindings is =
    whole_of (IsThere scope.structs) (object_type_in scope ty declarator name initialiser) whole bindings (object_there scope ty there declarator name initialiser) is
