use Rattle.std.specs.Prelude.{◌≡◌, ◌≢◌, ℕ, List, ◌++◌, Some, ◌⊎◌}
use Rattle.text_edits.specs.Files.{Lookup}

-- under each name stand the same bytes
abbrev pub SameFiles : Lookup → Lookup → Type 0
SameFiles before after = (name : List ℕ) → before name ≡ after name

-- the whole begins with the front
pub record IsPrefix (front whole : List ℕ) : Type 0 where
  pub rest : List ℕ
  pub whole_is : whole ≡ front ++ rest

-- afterwards the bytes stand under the name, and every other name is as before
pub record PutsFile (before : Lookup) (name bytes : List ℕ) (after : Lookup) : Type 0 where
  pub named : after name ≡ Some bytes
  pub others : (other : List ℕ) → other ≢ name → after other ≡ before other

-- a prefix of the bytes stands under the name
pub record HoldsPrefix (files : Lookup) (name bytes : List ℕ) : Type 0 where
  pub front : List ℕ
  pub is_prefix : IsPrefix front bytes
  pub named : files name ≡ Some front

-- afterwards a prefix of the bytes or what stood there before stands under the name, and every other
-- name is as before
pub record LeavesPart (before : Lookup) (name bytes : List ℕ) (after : Lookup) : Type 0 where
  pub named : (after name ≡ before name) ⊎ HoldsPrefix after name bytes
  pub others : (other : List ℕ) → other ≢ name → after other ≡ before other
