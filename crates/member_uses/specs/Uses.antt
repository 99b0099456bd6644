-- Which identifiers of a part of a unit use members of which structs, as the part is judged (ISO/IEC 9899:2011, 6.5.2.3).
use Rattle.std.specs.Prelude.{ℕ, List, [], ◌∷◌, ◌++◌, map, filter, Option, Some, None, if◌then◌else◌}
use Rattle.c_text.specs.Token.{PlainToken}
use Rattle.c_tree.specs.Trees.{PlainTree, PlainTrees, none, more, spelled}
use Rattle.core_meaning.specs.Checking.{Binding, Checked, fine}
use Rattle.bindings.specs.Bindings.{is_name}
use Rattle.selections.specs.Laws.{structure_bound}

-- an identifier that names a member in an expression, and the number of the member's struct
pub record Use : Type 0 where
  pub token : PlainToken
  pub structure : ℕ

-- the identifiers of a tree, in the order of the text
abbrev pub names_in : PlainTree → List PlainToken
names_in tree = filter is_name (spelled tree)

abbrev pub names_among : PlainTrees → List PlainToken
names_among none = []
names_among (more tree rest) = names_in tree ++ names_among rest

-- those identifiers that use members, where these are the structs in which each does
abbrev pub using : List PlainToken → List (Option ℕ) → List Use
using [] told = []
using (token ∷ tokens) [] = []
using (token ∷ tokens) (None ∷ told) = using tokens told
using (token ∷ tokens) (Some structure ∷ told) = record { token = token; structure = structure } ∷ using tokens told

-- the struct whose member an identifier of an expression names, where structs have these numbers; what declares a member uses none
abbrev pub structure_used : (ℕ → ℕ) → Binding → Option ℕ
structure_used by b = if b.in_expression then structure_bound by b else None

abbrev pub structures_used : (ℕ → ℕ) → List Binding → List (Option ℕ)
structures_used by bindings = map (structure_used by) bindings

-- the structs in a judgement that is fine; of another nothing is said
abbrev pub structures_in : {A : Type 0} → (ℕ → ℕ) → Checked A → List (Option ℕ)
structures_in by (fine x bindings) = structures_used by bindings
structures_in by other = []

-- the uses of members in a tree that is judged so, and among trees
abbrev pub uses_in : {A : Type 0} → (ℕ → ℕ) → PlainTree → Checked A → List Use
uses_in by tree judged = using (names_in tree) (structures_in by judged)

abbrev pub uses_among : {A : Type 0} → (ℕ → ℕ) → PlainTrees → Checked A → List Use
uses_among by trees judged = using (names_among trees) (structures_in by judged)
