-- That tables say what a scope does, where structs have other numbers.
use Rattle.std.specs.Prelude.{◌≡◌, ℕ, suc, ◌<◌, ◌≤◌, true, false, List, [], ◌∷◌, map, Option, Some, None, option_map, is_some, slice_get, ⊤, if◌then◌else◌}
use Rattle.std.specs.Str.{bytes_eq}
use Rattle.c_types.specs.Types.{PlainType}
use Rattle.c_types.specs.Tags.{PlainMember}
use Rattle.core_meaning.specs.Entities.{Struct, Signature, Scope, local_in}
use Rattle.core_meaning.specs.Entities as scopes
use Rattle.core_meaning.specs.Declarations.{innermost}
use Rattle.operand_types.specs.OperandTypes.{struct_in, renumbered}
use Rattle.operand_types.specs.Laws.{KeepsApart}
use Rattle.type_tables.specs.Tables.{Tables, Local, local_named, Sort, object, declared_function, FileName, is_in_block}

-- the struct that a type is made of is one of these
abbrev pub IsThere : List Struct → PlainType → Type 0
IsThere structs ty = (n : ℕ) → struct_in ty ≡ Some n → (s : Struct) × (slice_get structs n ≡ Some s)

abbrev pub AreThere : List Struct → List PlainType → Type 0
AreThere structs [] = ⊤
AreThere structs (ty ∷ types) = IsThere structs ty × AreThere structs types

-- the types of members
abbrev pub types_of : List PlainMember → List PlainType
types_of ms = map (λ m. m.ty) ms

-- the place of a member among others
abbrev pub place_of : List PlainMember → List ℕ → Option ℕ
place_of [] name = None
place_of (m ∷ rest) name = if bytes_eq name m.name then Some 0 else option_map suc (place_of rest name)

-- no more blocks are open where a local is declared than now
abbrev pub AreWithin : ℕ → List Local → Type 0
AreWithin depth [] = ⊤
AreWithin depth (l ∷ outer) = (l.depth ≤ depth) × AreWithin depth outer

-- a function is known by the number of one of so many declarations
abbrev pub IsNumbered : ℕ → Sort → Type 0
IsNumbered functions (object ty) = ⊤
IsNumbered functions (declared_function number) = number < functions

module _ (by : ℕ → ℕ) where
  abbrev pub renumbered_member : PlainMember → PlainMember
  renumbered_member m = record { name = m.name; ty = renumbered by m.ty }

  abbrev pub renumbered_signature : Signature → Signature
  renumbered_signature f = record { result = renumbered by f.result; parameters = map (renumbered by) f.parameters }

  abbrev pub SortFollows : (ℕ → Signature) → scopes.Sort → Sort → Type 0
  SortFollows signatures (scopes.variable ty) (object other) = other ≡ renumbered by ty
  SortFollows signatures (scopes.function f) (declared_function number) = signatures number ≡ renumbered_signature f
  SortFollows signatures sort other = ⊥

  abbrev pub NameFollows : (ℕ → Signature) → Option scopes.FileName → Option FileName → Type 0
  NameFollows signatures None None = ⊤
  NameFollows signatures (Some n) (Some other) = SortFollows signatures n.sort other.sort × (other.internal ≡ n.internal)
  NameFollows signatures n other = ⊥

  abbrev pub LocalFollows : Option scopes.Local → Option Local → Type 0
  LocalFollows None None = ⊤
  LocalFollows (Some l) (Some other) = other.ty ≡ renumbered by l.ty
  LocalFollows l other = ⊥

-- the types of a name are made of structs that are there
abbrev pub SortIsThere : List Struct → scopes.Sort → Type 0
SortIsThere structs (scopes.variable ty) = IsThere structs ty
SortIsThere structs (scopes.function f) = IsThere structs f.result × AreThere structs f.parameters

-- a struct by the number that it has in all configurations: it has no members before it is complete (6.7.2.1)
pub record StructFollows (by : ℕ → ℕ) (t : Tables) (structs : List Struct) (n : ℕ) (s : Struct) : Type 0 where
  pub declared : t.declared (by n) ≡ true
  pub complete : t.complete (by n) ≡ s.complete
  pub members : s.complete ≡ true → t.members (by n) ≡ map (renumbered_member by) s.members
  pub numbers : s.complete ≡ true → (name : List ℕ) → s.numbers name ≡ place_of s.members name
  pub there : s.complete ≡ true → AreThere structs (types_of s.members)
  pub scalars : t.scalars (by n) ≡ s.scalars
  pub none_before : s.complete ≡ false → s.members ≡ []
  pub named : t.named (by n) ≡ s.name

-- the tables say what the scope does
pub record Follows (t : Tables) (scope : Scope) : Type 0 where
  pub by : ℕ → ℕ
  pub apart : KeepsApart by
  pub structs : (n : ℕ) (s : Struct) → slice_get scope.structs n ≡ Some s → StructFollows by t scope.structs n s
  pub tags : (name : List ℕ) → t.tags name ≡ option_map by (scope.tags name)
  pub tagged : (name : List ℕ) (n : ℕ) → scope.tags name ≡ Some n → (s : Struct) × (slice_get scope.structs n ≡ Some s)
  pub names : (name : List ℕ) → NameFollows by t.signatures (scope.file_names name) (t.names name)
  pub names_there : (name : List ℕ) (n : scopes.FileName) → scope.file_names name ≡ Some n → SortIsThere scope.structs n.sort
  pub names_numbered : (name : List ℕ) (n : FileName) → t.names name ≡ Some n → IsNumbered t.functions n.sort
  pub locals : (name : List ℕ) → LocalFollows by (local_in scope.blocks name) (local_named t.locals name)
  pub locals_there : (name : List ℕ) (l : scopes.Local) → local_in scope.blocks name ≡ Some l → IsThere scope.structs l.ty
  pub within : AreWithin t.depth t.locals
  -- what isn't declared isn't complete, and what isn't complete has no scalars yet
  pub completes : (n : ℕ) → t.declared n ≡ false → t.complete n ≡ false
  pub uncounted : (n : ℕ) → t.complete n ≡ false → t.scalars n ≡ 0

-- and which names the innermost block declares
pub record FollowsInBlock (t : Tables) (scope : Scope) : Type 0 where
  pub follows : Follows t scope
  pub innermost : (name : List ℕ) → is_some (innermost scope.blocks name) ≡ is_in_block t.depth (local_named t.locals name)
