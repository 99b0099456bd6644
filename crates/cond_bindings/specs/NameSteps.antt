-- What an identifier adds to the names.
use Rattle.std.specs.Prelude.{ℕ, List, [], ◌∷◌, ◌++◌, if◌then◌else◌}
use Rattle.std.specs.Str.{bytes_eq}
use Rattle.cond_formula.specs.Conditions.{condition_of}
use Rattle.cond_bindings.specs.declared.unit_bindings.Declaration.{Declaration}
use Rattle.scope_readings.specs.Scopes.{Scope, file_scope, block_scope, members}
use Rattle.cond_bindings.specs.Bindings.{Visible, PlainIdentifier, PlainUse}
use Rattle.cond_bindings.specs.Names.{PlainNames, visible_in}

abbrev pub as_visible : Declaration → Visible
as_visible d = record { when = condition_of d.when; number = d.number }

abbrev pub noted : PlainNames → PlainIdentifier → PlainNames
noted names i = record names { identifiers = names.identifiers ++ i ∷ [] }

abbrev pub with_use : PlainNames → PlainUse → PlainNames
with_use names u = record names { uses = names.uses ++ u ∷ [] }

-- of the name there is one more declaration, the latest
abbrev pub with_visible : (List ℕ → List Visible) → List ℕ → Visible → List ℕ → List Visible
with_visible table name v other = if bytes_eq other name then v ∷ table name else table other

abbrev pub with_file : PlainNames → List ℕ → Visible → PlainNames
with_file names name v = record names { file = with_visible names.file name v }

abbrev pub with_tag : PlainNames → List ℕ → Visible → PlainNames
with_tag names name v = record names { tags = with_visible names.tags name v }

abbrev pub with_local : PlainNames → List ℕ → Visible → PlainNames
with_local names name v = record names { blocks = record { name = name; visible = v ∷ visible_in names.blocks name } ∷ names.blocks }

-- the declarations of the entity that a declarator names, as far as they stand before it
abbrev pub before_in : Scope → PlainNames → List ℕ → List Visible
before_in file_scope names name = names.file name
before_in block_scope names name = []
before_in members names name = []
