-- The names that units declare, define or use.
use Rattle.std.specs.Prelude.{ℕ, Bool, ◌||◌, List, [], ◌∷◌, ◌++◌, is_some, if◌then◌else◌}
use Rattle.std.specs.List.{list_any}
use Rattle.std.specs.Str.{bytes_eq}
use Rattle.conditional.specs.declared.entries.Guarded.{Guarded}
use Rattle.core_meaning.specs.Linking.{Unit, defines}
use Rattle.type_tables.specs.declared.entries.CondName.{CondName}
use Rattle.type_tables.specs.declared.definitions.Definition.{Definition}
use Rattle.link_faults.specs.declared.left.LeftUnit.{LeftUnit}
use Rattle.cond_bindings.specs.declared.unit_bindings.FileUse.{FileUse}

-- the names, and one more, which counts once
abbrev pub with_name : List (List ℕ) → List ℕ → List (List ℕ)
with_name names name = if list_any (bytes_eq name) names then names else names ++ name ∷ []

abbrev pub is_declared : List ℕ → List CondName → Bool
is_declared name names = list_any (λ (n : CondName). bytes_eq name n.name.items) names

abbrev pub is_defined : List ℕ → List (Guarded Definition) → Bool
is_defined name entries = list_any (λ (e : Guarded Definition). bytes_eq name e.what.name.items) entries

abbrev pub is_used : List ℕ → List FileUse → Bool
is_used name uses = list_any (λ (u : FileUse). bytes_eq name u.name.items) uses

-- a unit declares, defines or uses a name somewhere
abbrev pub is_mentioned : List ℕ → LeftUnit → Bool
is_mentioned name left = is_declared name left.names.declared.items || (is_defined name left.defined.entries.items || is_used name left.uses.items)

-- a unit of one configuration declares, defines or uses a name
abbrev pub names_it : List ℕ → Unit → Bool
names_it name unit = unit.uses name || (defines unit name || is_some (unit.names name))
