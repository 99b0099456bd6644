-- What is visible at a place of a unit (ISO/IEC 9899:2011, 6.2.1 to 6.2.3), as tables of names, and what the identifiers before it are bound
-- to. Tokens have the numbers that they have in the unit's stream.
use Rattle.std.specs.Prelude.{ℕ, Bool, true, false, not, ◌&&◌, ◌||◌, List, [], ◌∷◌, ◌++◌, drop, get_or, Option, Some, None, is_some}
use Rattle.std.specs.Str.{bytes_eq}
use Rattle.core_meaning.specs.Entities.{Table, no_entry, with_entry, or_else}

-- an identifier, and the token that first declares what it stands for, if it is declared
pub record Pairing : Type 0 where
  pub number : ℕ
  pub declared_by : Option ℕ

pub record Scopes : Type 0 where
  -- the numbers of the tokens to come
  pub coming : List ℕ
  -- by which token a name is declared: ordinary names and tags of file scope, where the first declaration counts, and ordinary names of the
  -- blocks that are open, where the innermost does
  pub file : Table ℕ
  pub tags : Table ℕ
  pub blocks : Table ℕ
  pub found : List Pairing
  -- which names of file scope expressions have used
  pub uses : List ℕ → Bool

abbrev pub starting : List ℕ → Scopes
starting numbers = record { coming = numbers; file = no_entry; tags = no_entry; blocks = no_entry; found = []; uses = λ name. false }

-- the number of the next token
abbrev pub this : Scopes → ℕ
this s = get_or s.coming 0 0

-- the token declares what it stands for, if nothing before does
abbrev pub or_own : Option ℕ → ℕ → ℕ
or_own None number = number
or_own (Some first) number = first

-- a token that is no identifier, or a member behind `.` or `->`, which the types of expressions tell
abbrev pub passed : Scopes → Scopes
passed s = record s { coming = drop 1 s.coming }

abbrev pub paired : Option ℕ → Scopes → Scopes
paired by s = record s { coming = drop 1 s.coming; found = s.found ++ record { number = this s; declared_by = by } ∷ [] }

-- a name of file scope, where no open block has it
abbrev pub is_of_file : List ℕ → Scopes → Bool
is_of_file name s = not (is_some (s.blocks name)) && is_some (s.file name)

abbrev pub file_used : List ℕ → Scopes → Scopes
file_used name s = record s { uses = λ other. s.uses other || (is_of_file name s && bytes_eq name other) }

-- an ordinary name that is used
abbrev pub used : List ℕ → Scopes → Scopes
used name s = paired (or_else (s.blocks name) (s.file name)) (file_used name s)

-- a tag: where it may declare a struct, it is visible from here on
abbrev pub tagged : Bool → List ℕ → Scopes → Scopes
tagged true name s = record (paired (Some (or_own (s.tags name) (this s))) s) { tags = with_entry s.tags name (or_own (s.tags name) (this s)) }
tagged false name s = paired (s.tags name) s

-- where a declarator stands
pub data Scope : Type 0 where
  file_scope : Scope
  block_scope : Scope
  -- among the members of a struct, whose names are told by its type
  members : Scope

-- the name of a declarator
abbrev pub named : Scope → List ℕ → Scopes → Scopes
named file_scope name s = paired (Some (or_own (s.file name) (this s))) s
named other name s = paired (Some (this s)) s

-- it is visible behind its declarator, by the number that its token has
abbrev pub shown : Scope → List ℕ → ℕ → Scopes → Scopes
shown file_scope name number s = record s { file = with_entry s.file name (or_own (s.file name) number) }
shown block_scope name number s = record s { blocks = with_entry s.blocks name number }
shown members name number s = s

-- a block ends: what it declared isn't visible any more
abbrev pub leave : Scopes → Scopes → Scopes
leave before s = record s { blocks = before.blocks }
