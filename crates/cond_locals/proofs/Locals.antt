-- What comes of one declarator.
use Rattle.std.proofs.Common.{◌≡◌, ℕ, Bool, true, false, ◌||◌, List, [], ◌∷◌, ◌++◌, length, map, refl, sym, subst}
use Rattle.std.specs.Prelude.{Option, Some}
use Rattle.std.proofs.lemmas.Bool.{false≢true}
use Rattle.c_text.specs.Token.{PlainToken}
use Rattle.c_types.specs.Types.{PlainType}
use Rattle.c_tree.specs.Trees.{PlainTree, leaf, node}
use Rattle.core_meaning.specs.declared.refusals.TypeKind.TheVariants.{Redeclared}
use Rattle.core_meaning.specs.Checking.{Entity, local_entity, Binding, Checked, fine, refused, broken, with_bindings, ◌>>=◌, give, unless_so, declares, or_broken}
use Rattle.core_meaning.specs.Entities.{Struct, Scope}
use Rattle.core_meaning.specs.Constancy.{Initial}
use Rattle.core_meaning.specs.Declarations.{Locals, plain_part, is_new_local, judged_object, local_initial, one_local, declared_local}
use Rattle.core_meaning.specs.Declarations as meaning
use Rattle.operand_types.specs.OperandTypes.{renumbered}
use Rattle.statement_readings.specs.Walks.{is_refused}
use Rattle.type_tables.specs.Tables.{Tables}
use Rattle.type_tables.specs.Steps as step
use Rattle.type_tables.specs.Follows.{IsThere, FollowsInBlock}
use Rattle.type_tables.specs.Numbers.{FollowsInBlockBy}
use Rattle.type_tables.proofs.BlockLaws.{local_declared, local_by}
use Rattle.cond_declarators.specs.Types.{object_type_in}
use Rattle.cond_locals.specs.Declaring.{IsInitialiser, IsDeclared, GoesOn, name_of, local_in}

module _ (by : ℕ → ℕ) (structs : List Struct) (r : Bool) (new : Tables) where
  abbrev Comes : Checked Locals → Type 0
  Comes c = GoesOn by structs c r new

  pub comes_bound : (bindings : List Binding) (c : Checked Locals) → Comes c → Comes (with_bindings bindings c)
  comes_bound bindings (fine locals others) h = h
  comes_bound bindings (refused kind token) h = h
  comes_bound bindings broken h = h

  -- the innermost block declares the name, or the type is refused
  refused_first : (rest : Unit {0} → Checked Locals) (name : PlainToken) (b : Bool) → b ≡ false → r ≡ true → Comes (unless_so b Redeclared name >>= rest)
  refused_first rest name true h is = absurd (false≢true (sym h))
  refused_first rest name false h is = is

  refused_type : (tail : PlainType → Checked Locals) (name : PlainToken) (e : Entity) (b : Bool) (o : Checked PlainType) → is_refused o ≡ true → r ≡ true
      → Comes (unless_so b Redeclared name >>= (λ new. declares e >>= (λ bound. o >>= tail)))
  refused_type tail name e true (fine whole bindings) h is = absurd (false≢true h)
  refused_type tail name e true (refused kind token) h is = is
  refused_type tail name e true broken h is = is
  refused_type tail name e false o h is = is

  typed : (tail : PlainType → Checked Locals) (name : PlainToken) (e : Entity) (b : Bool) (o : Checked PlainType) (whole : PlainType) (bindings : List Binding)
      → b ≡ true → o ≡ fine whole bindings → Comes (tail whole) → Comes (unless_so b Redeclared name >>= (λ new. declares e >>= (λ bound. o >>= tail)))
  typed tail name e b o whole bindings h is comes =
      subst (λ (t : Bool). Comes (unless_so t Redeclared name >>= (λ new. declares e >>= (λ bound. o >>= tail)))) (sym h)
      (subst (λ (c : Checked PlainType). Comes (unless_so true Redeclared name >>= (λ new. declares e >>= (λ bound. c >>= tail)))) (sym is)
      (comes_bound [] (with_bindings (record { entity = e; in_expression = false } ∷ []) (with_bindings bindings (tail whole)))
      (comes_bound (record { entity = e; in_expression = false } ∷ []) (with_bindings bindings (tail whole)) (comes_bound bindings (tail whole) comes))))

  -- its type and its initialiser are judged
  judged : (j : Checked (Unit {0})) (i : Checked (List Initial)) (locals : List Initial → Locals) → r ≡ (is_refused j || is_refused i)
      → ((given : List Initial) → FollowsInBlockBy by new (locals given).scope × ((locals given).scope.structs ≡ structs))
      → Comes (j >>= (λ fits. i >>= (λ given. give (locals given))))
  judged (fine x bindings) (fine given more) locals is follows = (is, (follows given).0, (follows given).1)
  judged (fine x bindings) (refused kind token) locals is follows = is
  judged (fine x bindings) broken locals is follows = is
  judged (refused kind token) i locals is follows = is
  judged broken i locals is follows = is

pub follows_with : (t new : Tables) (scope : Scope) (f : FollowsInBlock t scope) (name : List ℕ) (slot : ℕ) (ty : PlainType) → IsThere scope.structs ty
    → new ≡ step.with_local name (renumbered f.follows.by ty) t → FollowsInBlockBy f.follows.by new (meaning.with_local scope name slot ty)
follows_with t new scope f name slot ty there is =
    subst (λ (u : Tables). FollowsInBlockBy f.follows.by u (meaning.with_local scope name slot ty)) (sym is)
    (record { follows = local_declared t scope f name slot ty there; numbers = local_by t scope f name slot ty there })

module _ (scope : Scope) (slots : List PlainType) (ty : PlainType) (name : PlainToken) (initialiser : Option PlainTree) where
  -- what comes behind the type
  abbrev behind_type : PlainType → Checked Locals
  behind_type whole =
      judged_object scope whole name
      >>= (λ fits. local_initial (meaning.with_local scope name.text (length slots) whole) whole name initialiser
      >>= (λ given. give (record {
        scope = meaning.with_local scope name.text (length slots) whole;
        slots = slots ++ whole ∷ [];
        items = record { slot = length slots; parts = map plain_part given } ∷ [];
      })))

  module _ (t new : Tables) (f : FollowsInBlock t scope) (r : Bool) where
    declared_comes : (whole : PlainType) → IsThere scope.structs whole → IsInitialiser initialiser → IsDeclared (renumbered f.follows.by whole) name initialiser t new r
        → GoesOn f.follows.by scope.structs (behind_type whole) r new
    declared_comes whole there derived is =
        judged f.follows.by scope.structs r new (judged_object scope whole name) (local_initial (meaning.with_local scope name.text (length slots) whole) whole name initialiser)
        (λ given. record {
          scope = meaning.with_local scope name.text (length slots) whole;
          slots = slots ++ whole ∷ [];
          items = record { slot = length slots; parts = map plain_part given } ∷ [];
        })
        (is.refused_is scope (length slots) f whole refl there derived) (λ given. (follows_with t new scope f name.text (length slots) whole there is.local, refl))

    -- a name that is new, with a type that is given
    pub new_comes : (tree : PlainTree) (whole : PlainType) (bindings : List Binding) → is_new_local scope name.text ≡ true → object_type_in scope ty tree name initialiser ≡ fine whole bindings
        → IsThere scope.structs whole → IsInitialiser initialiser → IsDeclared (renumbered f.follows.by whole) name initialiser t new r
        → GoesOn f.follows.by scope.structs (local_in scope slots ty tree name initialiser) r new
    new_comes (leaf token) whole bindings fresh is there derived declared = absurd cc
    new_comes (node kind parts) whole bindings fresh is there derived declared =
        typed f.follows.by scope.structs r new behind_type name (local_entity (length slots)) (is_new_local scope name.text) (meaning.object_type scope ty kind parts name initialiser) whole bindings fresh is
        (declared_comes whole there derived declared)

  module _ (by : ℕ → ℕ) (structs : List Struct) (new : Tables) (r : Bool) where
    -- a type that is refused
    pub untyped_comes : (tree : PlainTree) → is_refused (object_type_in scope ty tree name initialiser) ≡ true → r ≡ true
        → GoesOn by structs (local_in scope slots ty tree name initialiser) r new
    untyped_comes (leaf token) h is = is
    untyped_comes (node kind parts) h is =
        refused_type by structs r new behind_type name (local_entity (length slots)) (is_new_local scope name.text) (meaning.object_type scope ty kind parts name initialiser) h is

    -- a name that the innermost block declares
    pub known_comes : (tree : PlainTree) → is_new_local scope name.text ≡ false → r ≡ true → GoesOn by structs (local_in scope slots ty tree name initialiser) r new
    known_comes (leaf token) h is = is
    known_comes (node kind parts) h is =
        refused_first by structs r new (λ new. declares (local_entity (length slots)) >>= (λ bound. meaning.object_type scope ty kind parts name initialiser >>= behind_type))
        name (is_new_local scope name.text) h is

    -- a declarator by its name
    pub named_comes : (tree : PlainTree) → name_of tree ≡ Some name → GoesOn by structs (local_in scope slots ty tree name initialiser) r new
        → GoesOn by structs (one_local scope slots ty tree initialiser) r new
    named_comes (leaf token) h comes = absurd cc
    named_comes (node kind parts) h comes =
        subst (λ (o : Option PlainToken). GoesOn by structs (or_broken o >>= (λ name. declared_local scope slots ty kind parts name initialiser)) r new) (sym h)
        (comes_bound by structs r new [] (declared_local scope slots ty kind parts name initialiser) comes)
