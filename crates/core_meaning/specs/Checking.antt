-- What comes of judging a part of a unit: a result with the identifiers that it binds, or the first refusal.
use Rattle.std.specs.Prelude.{ℕ, List, [], ◌∷◌, ◌++◌, map, Bool, true, false, Option, Some, None}
use Rattle.c_text.specs.Token.{PlainToken}
use Rattle.core_meaning.specs.declared.refusals.TypeKind.{TypeKind}

-- What an identifier stands for. Each identifier of a unit is bound once, so the bindings of a unit are a list, one for each identifier in
-- the order of the text; the first that is bound to an entity is the one that declares it.
pub data Entity : Type 0 where
  -- a parameter or local, by its slot; and with the number of its function in the unit
  local_entity : ℕ → Entity
  local_of_function : ℕ → ℕ → Entity
  -- a name of file scope
  file_entity : List ℕ → Entity
  struct_entity : ℕ → Entity
  -- a member, by the numbers of its struct and its own
  member_entity : ℕ → ℕ → Entity
  -- a parameter of a declaration that defines no function, which no other identifier stands for
  own_entity : Entity

pub record Binding : Type 0 where
  pub entity : Entity
  -- an expression uses it
  pub in_expression : Bool

-- Parts are judged in the order of the text, so that the first refusal is that of the first part that has one.
pub data Checked (A : Type 0) : Type 0 where
  fine : A → List Binding → Checked A
  refused : TypeKind → PlainToken → Checked A
  -- the tree is none of the grammar
  broken : Checked A

abbrev pub with_bindings : {A : Type 0} → List Binding → Checked A → Checked A
with_bindings before (fine x behind) = fine x (before ++ behind)
with_bindings before (refused kind token) = refused kind token
with_bindings before broken = broken

-- a judgement, and then what its result leads to; `x ← judgement` in a `do` stands for it
infixl 10 ◌>>=◌
abbrev pub ◌>>=◌ : {A B : Type 0} → Checked A → (A → Checked B) → Checked B
fine x bindings >>= next = with_bindings bindings (next x)
refused kind token >>= next = refused kind token
broken >>= next = broken

abbrev pub give : {A : Type 0} → A → Checked A
give x = fine x []

-- refused where the test fails
abbrev pub unless_so : Bool → TypeKind → PlainToken → Checked (Unit {0})
unless_so true kind token = give tt
unless_so false kind token = refused kind token

-- an identifier that declares, and one in an expression
abbrev pub declares : Entity → Checked (Unit {0})
declares entity = fine tt (record { entity = entity; in_expression = false } ∷ [])

abbrev pub uses : Entity → Checked (Unit {0})
uses entity = fine tt (record { entity = entity; in_expression = true } ∷ [])

-- the bindings of a function's definition, with its number
abbrev pub numbered : ℕ → Entity → Entity
numbered n (local_entity slot) = local_of_function n slot
numbered n other = other

abbrev pub numbered_binding : ℕ → Binding → Binding
numbered_binding n b = record b { entity = numbered n b.entity }

abbrev pub in_function : {A : Type 0} → ℕ → Checked A → Checked A
in_function n (fine x bindings) = fine x (map (numbered_binding n) bindings)
in_function n (refused kind token) = refused kind token
in_function n broken = broken

-- refused where there is nothing
abbrev pub found_or : {A : Type 0} → Option A → TypeKind → PlainToken → Checked A
found_or (Some x) kind token = give x
found_or None kind token = refused kind token

abbrev pub or_broken : {A : Type 0} → Option A → Checked A
or_broken (Some x) = give x
or_broken None = broken
