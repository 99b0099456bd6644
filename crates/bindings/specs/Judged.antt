-- What the bindings of a unit have to do with how `core_meaning` judges it. A judgement binds each identifier to an entity; the first that it
-- binds to an entity is the one that declares it.
use Rattle.std.specs.Prelude.{◌≡◌, ℕ, ◌==◌, Bool, true, false, ◌&&◌, List, [], ◌∷◌, ◌++◌, Option, Some, None, if◌then◌else◌, IsTrue}
use Rattle.std.specs.Str.{bytes_eq}
use Rattle.c_text.specs.Token.{PlainToken}
use Rattle.core_meaning.specs.Checking.{Entity, local_entity, local_of_function, file_entity, struct_entity, member_entity, Binding as JudgedBinding}
use Rattle.core_meaning.specs.Constancy.{same_place}
use Rattle.bindings.specs.Visible.{bound_to, undeclared, member_use, Occurrence}

-- no two identifiers are bound to a parameter of a declaration that defines no function
abbrev pub same_entity : Entity → Entity → Bool
same_entity (local_entity m) (local_entity n) = m == n
same_entity (local_of_function f m) (local_of_function g n) = f == g && m == n
same_entity (file_entity a) (file_entity b) = bytes_eq a b
same_entity (struct_entity m) (struct_entity n) = m == n
same_entity (member_entity s m) (member_entity t n) = s == t && m == n
same_entity a b = false

-- an identifier with the entity to which a judgement binds it
pub record Identified : Type 0 where
  pub number : ℕ
  pub token : PlainToken
  pub entity : Entity

abbrev pub first_with : Entity → List Identified → Option Identified
first_with entity [] = None
first_with entity (i ∷ rest) = if same_entity i.entity entity then Some i else first_with entity rest

abbrev pub number_or : Option Identified → ℕ → ℕ
number_or None own = own
number_or (Some i) own = i.number

abbrev pub struct_of : Entity → Entity
struct_of (member_entity s m) = struct_entity s
struct_of other = other

-- the member of the struct whose tag declares it
pub record IsMember (before : List Identified) (which : List ℕ → Option ℕ) (entity : Entity) : Type 0 where
  pub tag : Identified
  pub member : Identified
  pub declares_struct : first_with (struct_of entity) before ≡ Some tag
  pub declares_member : first_with entity before ≡ Some member
  pub bound : which tag.token.text ≡ Some member.number

-- An identifier is bound to the first before it with its entity, or to itself if there is none.
abbrev pub IsBoundAlike : List Identified → Occurrence → Entity → Type 0
IsBoundAlike before o entity = elim o.binding as (λ x. Type 0) [
  | bound_to by ↦ by ≡ number_or (first_with entity before) o.number
  | undeclared ↦ ⊥
  | member_use which ↦ IsMember before which entity
]

abbrev pub IsDeclared : Occurrence → Type 0
IsDeclared o = elim o.binding as (λ x. Type 0) [ bound_to by ↦ Unit {0} | undeclared ↦ ⊥ | member_use which ↦ Unit {0} ]

-- A slot that is no function's is that of a parameter of a declaration, which a judgement tells apart no further.
abbrev pub IsAlike : List Identified → Occurrence → Entity → Type 0
IsAlike before o (local_entity slot) = IsDeclared o
IsAlike before o entity = IsBoundAlike before o entity

abbrev pub is_file_entity : Entity → Bool
is_file_entity (file_entity name) = true
is_file_entity other = false

-- An identifier is used in an expression as a name of file scope by both or by neither, and then it is this name.
pub record IsUsedAlike (o : Occurrence) (j : JudgedBinding) : Type 0 where
  pub same : o.uses_file_name ≡ (j.in_expression && is_file_entity j.entity)
  pub named : IsTrue o.uses_file_name → j.entity ≡ file_entity o.token.text

abbrev pub identified : Occurrence → JudgedBinding → Identified
identified o j = record { number = o.number; token = o.token; entity = j.entity }

-- one identifier after the other
abbrev pub AreAlike : List Identified → List Occurrence → List JudgedBinding → Type 0
AreAlike before [] [] = Unit {0}
AreAlike before [] (j ∷ js) = ⊥
AreAlike before (o ∷ os) [] = ⊥
AreAlike before (o ∷ os) (j ∷ js) = IsAlike before o j.entity × AreAlike (before ++ identified o j ∷ []) os js

-- the first of them that is undeclared stands at the place of this token
abbrev pub IsFirstUndeclared : PlainToken → List Occurrence → Type 0
IsFirstUndeclared token [] = ⊥
IsFirstUndeclared token (o ∷ os) = elim o.binding as (λ x. Type 0) [
  | bound_to by ↦ IsFirstUndeclared token os
  | undeclared ↦ IsTrue (same_place token o.token)
  | member_use which ↦ IsFirstUndeclared token os
]

-- none of them is undeclared
abbrev pub AreDeclared : List Occurrence → Type 0
AreDeclared [] = Unit {0}
AreDeclared (o ∷ os) = IsDeclared o × AreDeclared os
