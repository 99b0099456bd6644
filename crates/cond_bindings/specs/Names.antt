-- What is visible at a place of a unit in all configurations, and the identifiers before it.
use Rattle.std.specs.Prelude.{◌≡◌, ℕ, Bool, true, false, ◌||◌, List, [], ◌∷◌, ◌++◌, is_none, if◌then◌else◌}
use Rattle.std.specs.Str.{bytes_eq}
use Rattle.cond_formula.specs.Conditions.{Condition, value}
use Rattle.scope_readings.specs.Scopes.{Pairing, Scopes}
use Rattle.cond_bindings.specs.Bindings.{Visible, PlainIdentifier, PlainUse, innermost, first, pairings_at, uses_at}

-- a name that a block declares: this declaration, and those of blocks that it hides
pub record BlockName : Type 0 where
  pub name : List ℕ
  pub visible : List Visible

pub record PlainNames : Type 0 where
  -- of each name what is visible of file scope, the latest first: ordinary names and tags
  pub file : List ℕ → List Visible
  pub tags : List ℕ → List Visible
  -- the names that open blocks declare, the latest first
  pub blocks : List BlockName
  pub identifiers : List PlainIdentifier
  -- the names of file scope that expressions use
  pub uses : List PlainUse
  -- where an identifier is undeclared
  pub refused : Condition

abbrev pub visible_in : List BlockName → List ℕ → List Visible
visible_in [] name = []
visible_in (b ∷ outer) name = if bytes_eq name b.name then b.visible else visible_in outer name

-- what a configuration sees, before tokens with these numbers
abbrev pub seen : (ℕ → Bool) → List ℕ → PlainNames → Scopes
seen on coming names = record {
  coming = coming;
  file = λ name. first on (names.file name);
  tags = λ name. first on (names.tags name);
  blocks = λ name. innermost on (visible_in names.blocks name);
  found = pairings_at on names.identifiers;
  uses = uses_at on names.uses;
}

-- on a path the names become what a step makes of what is seen, and elsewhere they stay
abbrev pub Steps : (ℕ → Bool) → Bool → List ℕ → (Scopes → Scopes) → List ℕ → PlainNames → PlainNames → Type 0
Steps on true before step coming old new = seen on coming new ≡ step (seen on before old)
Steps on false before step coming old new = seen on coming new ≡ seen on coming old

-- blocks have been entered and left, or declare more
pub record Grows (old new : PlainNames) : Type 0 where
  pub more : List BlockName
  pub blocks_are : new.blocks ≡ more ++ old.blocks

-- some identifier is undeclared
abbrev pub some_undeclared : List Pairing → Bool
some_undeclared [] = false
some_undeclared (p ∷ rest) = is_none p.declared_by || some_undeclared rest

-- refused exactly where one is
abbrev pub TellsUndeclared : (ℕ → Bool) → PlainNames → Type 0
TellsUndeclared on names = value on names.refused ≡ some_undeclared (pairings_at on names.identifiers)
