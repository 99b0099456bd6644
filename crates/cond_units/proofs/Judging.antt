-- How the declaration of an object is judged, step by step (6.7, 6.9.2).
use Rattle.std.proofs.Common.{◌≡◌, ℕ, Bool, true, false, not, List, [], ◌∷◌, ◌++◌, refl, ap, subst}
use Rattle.std.specs.Prelude.{◌&&◌, ◌||◌, Option, Some, None, is_some, IsTrue, if◌then◌else◌}
use Rattle.std.proofs.lemmas.Bool.{false≢true}
use Rattle.c_text.specs.Token.{PlainToken}
use Rattle.c_types.specs.Types.{PlainType}
use Rattle.c_tree.specs.Trees.{PlainTree, PlainTrees}
use Rattle.core_meaning.specs.declared.refusals.TypeKind.TheVariants.{Redeclared, Incomplete, BadConstant}
use Rattle.core_meaning.specs.Program.{PlainConstantPart}
use Rattle.core_meaning.specs.Checking.{Binding, Checked, fine, refused, broken, with_bindings, ◌>>=◌, give, unless_so, or_broken}
use Rattle.core_meaning.specs.Entities.{Struct, Scope, Sort, FileName}
use Rattle.core_meaning.specs.Typing.{is_complete}
use Rattle.core_meaning.specs.Constancy.{is_small, Initial, initial}
use Rattle.core_meaning.specs.UnitNames.{Storage, by_static, by_extern, by_none, UnitState, Defined, object_body, with_scope, with_defined, constant_parts, may_be_incomplete, linkage, is_function, same_sort, same_bool, declared_as, with_name, judged_global, defined_object}
use Rattle.statement_readings.specs.Walks.{is_refused}
use Rattle.type_tables.specs.Definitions.{PlainDefinition, plain_definition, plain_definitions}
use Rattle.cond_units.specs.Definitions.{definitions_of}
use Rattle.cond_units.specs.Values.{is_value_refused}

-- a declaration leads to a unit in which this is visible and this has been defined, or it is refused
abbrev pub LeadsTo : Checked UnitState → Bool → Scope → List PlainDefinition → Type 0
LeadsTo (fine unit bindings) declined scope defined = (declined ≡ false) × (unit.scope ≡ scope) × (plain_definitions unit.defined ≡ defined)
LeadsTo other declined scope defined = declined ≡ true

pub leads_still : (before : List Binding) (next : Checked UnitState) (declined : Bool) (scope : Scope) (defined : List PlainDefinition) → LeadsTo next declined scope defined → LeadsTo (with_bindings before next) declined scope defined
leads_still before (fine unit bindings) declined scope defined h = h
leads_still before (refused kind token) declined scope defined h = h
leads_still before broken declined scope defined h = h

-- ---- where an object may not be of a type

abbrev pub is_unfit_in : Storage → Bool → List Struct → PlainType → PlainTrees → Bool
is_unfit_in storage initialised structs ty rest =
    if is_complete structs ty then not (is_small structs ty) else not (may_be_incomplete storage initialised structs ty rest)

fits : (may complete small : Bool) (name : PlainToken) (next : Checked UnitState) (declined : Bool) (scope : Scope) (defined : List PlainDefinition) → LeadsTo next declined scope defined
    → LeadsTo ((if may && not complete then give tt else (unless_so complete Incomplete name >>= (λ u. unless_so small BadConstant name))) >>= (λ u. next))
    ((if complete then not small else not may) || declined) scope defined
fits true true true name next declined scope defined h = leads_still [] next declined scope defined h
fits true true false name next declined scope defined h = refl
fits false true true name next declined scope defined h = leads_still [] next declined scope defined h
fits false true false name next declined scope defined h = refl
fits true false small name next declined scope defined h = leads_still [] next declined scope defined h
fits false false small name next declined scope defined h = refl

pub judged_first : (storage : Storage) (initialised : Bool) (scope : Scope) (ty : PlainType) (name : PlainToken) (rest : PlainTrees) (next : Checked UnitState) (declined : Bool) (defined : List PlainDefinition)
    → LeadsTo next declined scope defined → LeadsTo (judged_global storage initialised scope ty name rest >>= (λ u. next)) (is_unfit_in storage initialised scope.structs ty rest || declined) scope defined
judged_first storage initialised scope ty name rest next declined defined h =
    fits (may_be_incomplete storage initialised scope.structs ty rest) (is_complete scope.structs ty) (is_small scope.structs ty) name next declined scope defined h

-- ---- what is defined

pub nothing_behind : (xs : List PlainDefinition) → xs ≡ xs ++ []
nothing_behind [] = refl
nothing_behind (x ∷ xs) = ap (λ (l : List PlainDefinition). x ∷ l) (nothing_behind xs)

one_behind : (xs : List Defined) (d : Defined) → plain_definitions (xs ++ d ∷ []) ≡ plain_definitions xs ++ plain_definition d ∷ []
one_behind [] d = refl
one_behind (x ∷ xs) d = ap (λ (l : List PlainDefinition). plain_definition x ∷ l) (one_behind xs d)

module _ (globals : ℕ) (unit : UnitState) (scope : Scope) (ty : PlainType) (name : PlainToken) where
  abbrev there : UnitState
  there = with_scope unit scope

  given_parts : (parts : List Initial) (o : Option (List PlainConstantPart)) → IsTrue (is_some o)
      → LeadsTo (or_broken o >>= (λ values. give (with_defined there name.text (object_body values)))) false scope (plain_definitions unit.defined ++ record { name = name.text; tentative = false } ∷ [])
  given_parts parts None h = absurd (false≢true h)
  given_parts parts (Some values) h = (refl, refl, one_behind unit.defined (record { name = name.text; body = object_body values }))

  initialised : (tree : PlainTree) (first : Checked (List Initial)) → ((parts : List Initial) (bindings : List Binding) → first ≡ fine parts bindings → IsTrue (is_some (constant_parts globals parts)))
      → LeadsTo (first >>= (λ parts. or_broken (constant_parts globals parts) >>= (λ values. give (with_defined there name.text (object_body values))))) (is_refused first) scope
      (plain_definitions unit.defined ++ record { name = name.text; tentative = false } ∷ [])
  initialised tree (fine parts bindings) h = leads_still bindings _ false scope _ (given_parts parts (constant_parts globals parts) (h parts bindings refl))
  initialised tree (refused kind token) h = refl
  initialised tree broken h = refl

  pub defined_last : (storage : Storage) (initialiser : Option PlainTree)
      → ((tree : PlainTree) (parts : List Initial) (bindings : List Binding) → initial scope (Some globals) ty [] tree name ≡ fine parts bindings → IsTrue (is_some (constant_parts globals parts)))
      → LeadsTo (defined_object globals there storage ty name initialiser) (is_value_refused scope globals ty name initialiser) scope (plain_definitions unit.defined ++ definitions_of storage name.text (is_some initialiser))
  defined_last by_extern None h = (refl, refl, nothing_behind (plain_definitions unit.defined))
  defined_last by_static None h = (refl, refl, one_behind unit.defined _)
  defined_last by_none None h = (refl, refl, one_behind unit.defined _)
  defined_last by_extern (Some tree) h = initialised tree (initial scope (Some globals) ty [] tree name) (h tree)
  defined_last by_static (Some tree) h = initialised tree (initial scope (Some globals) ty [] tree name) (h tree)
  defined_last by_none (Some tree) h = initialised tree (initial scope (Some globals) ty [] tree name) (h tree)

-- ---- a name that is declared changes names alone

pub record Keeps (before after : Scope) : Type 0 where
  pub structs : after.structs ≡ before.structs
  pub blocks : after.blocks ≡ before.blocks

same_scope : (a b : Scope) (x y : List Binding) → fine a x ≡ fine b y → a ≡ b
same_scope a b x y e = cc

pub name_keeps : (scope : Scope) (name : PlainToken) (sort : Sort) (storage : Storage) (after : Scope) (bindings : List Binding) → with_name scope name sort storage ≡ fine after bindings → Keeps scope after
name_keeps scope name sort storage after bindings e = by (scope.file_names name.text) e
  where
    again : (b : Bool) → (unless_so b Redeclared name >>= (λ u. give scope)) ≡ fine after bindings → Keeps scope after
    again true e = subst (Keeps scope) (same_scope scope after _ bindings e) (record { structs = refl; blocks = refl })
    again false e = absurd cc

    by : (n : Option FileName) → declared_as scope name sort (linkage storage (is_function sort) n) n ≡ fine after bindings → Keeps scope after
    by None e = subst (Keeps scope) (same_scope _ after _ bindings e) (record { structs = refl; blocks = refl })
    by (Some n) e = again (same_sort n.sort sort && same_bool n.internal (linkage storage (is_function sort) (Some n))) e
