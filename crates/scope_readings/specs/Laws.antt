-- That a unit is read so; the law is the contract of a function of this crate.
use Rattle.std.specs.Prelude.{◌≡◌, ℕ, List, [], ◌∷◌, get_or, Some, None, IsTrue}
use Rattle.std.specs.List.{flat_map}
use Rattle.c_tree.specs.Trees.{PlainTree}
use Rattle.c_tree.specs.Grammar.{is_unit}
use Rattle.bindings.specs.Visible.{Binding, bound_to, undeclared, member_use, Occurrence, uses_among}
use Rattle.bindings.specs.Bindings.{bindings_of}
use Rattle.scope_readings.specs.Scopes.{Pairing}
use Rattle.scope_readings.specs.Walks.{walk_unit}

-- an identifier's binding by the numbers of the stream; the types tell the uses of members
abbrev pub pairing : List ℕ → ℕ → Binding → List Pairing
pairing numbers number (bound_to by) = record { number = get_or numbers number 0; declared_by = Some (get_or numbers by 0) } ∷ []
pairing numbers number undeclared = record { number = get_or numbers number 0; declared_by = None } ∷ []
pairing numbers number (member_use which) = []

abbrev pub pairings : List ℕ → List Occurrence → List Pairing
pairings numbers occurrences = flat_map (λ o. pairing numbers o.number o.binding) occurrences

-- What is found by the kinds of nodes are the bindings of the unit, but for the uses of members.
abbrev pub ScopesAreRead : Type 0
ScopesAreRead =
    (tree : PlainTree) → IsTrue (is_unit tree) → (numbers : List ℕ) → (walk_unit numbers tree).found ≡ pairings numbers (bindings_of tree)

-- And the names of file scope that its expressions use are those that the bindings say.
abbrev pub FileNamesAreRead : Type 0
FileNamesAreRead =
    (tree : PlainTree) → IsTrue (is_unit tree) → (numbers name : List ℕ) → (walk_unit numbers tree).uses name ≡ uses_among (bindings_of tree) name
