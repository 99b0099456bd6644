-- Faults of linking as the code finds them: lists of names, and the least of them.
use Rattle.std.specs.Prelude.{◌≡◌, ℕ, Bool, true, false, not, List, [], ◌∷◌, ◌++◌, map, filter, Option, Some, None, if◌then◌else◌, IsTrue, ⊤, ◌⊎◌}
use Rattle.c_types.specs.Tags.{PlainTag}
use Rattle.core_meaning.specs.declared.refusals.LinkKind.{LinkKind}
use Rattle.c_types.specs.Types.{PlainType}
use Rattle.core_meaning.specs.Entities.{Sort, function, Struct}
use Rattle.core_meaning.specs.Linking.{Unit, Units, IsFault, IsFirstFault, SortsAgree, is_lesser, external_sort, external_sorts, built_in_sort, is_available, is_duplicate}
use Rattle.plain_link.specs.PlainUnits.{plain_unit, key_texts}
use Rattle.plain_link.specs.declared.left.Left.{Left}
use Rattle.plain_link.specs.declared.definitions.Defined.{Defined}
use Rattle.plain_scope.specs.declared.errors.ElabError.{ElabError}
use Rattle.plain_scope.specs.declared.errors.ElabError.TheVariants.{BadType, Link, Memory}

abbrev pub IsIn : {A : Type 0} → A → List A → Type 0
IsIn x [] = ⊥
IsIn x (y ∷ ys) = (y ≡ x) ⊎ IsIn x ys

abbrev pub AllOf : {A : Type 0} → (A → Type 0) → List A → Type 0
AllOf P [] = ⊤
AllOf P (x ∷ xs) = P x × AllOf P xs

-- a test's answer: the one, or the other
abbrev pub Tells : Bool → Type 0 → Type 0 → Type 0
Tells true A B = A
Tells false A B = B

-- the names are those of which this is true
pub record Finds (names : List (List ℕ)) (P : List ℕ → Type 0) : Type 0 where
  pub holds : (name : List ℕ) → IsIn name names → P name
  pub complete : (name : List ℕ) → P name → IsIn name names

-- the least of the names, where one is known
abbrev pub least_from : List ℕ → List (List ℕ) → List ℕ
least_from least [] = least
least_from least (name ∷ rest) = least_from (if is_lesser name least then name else least) rest

abbrev pub least_of : List (List ℕ) → Option (List ℕ)
least_of [] = None
least_of (name ∷ rest) = Some (least_from name rest)

-- The least name of a fault is refused with its kind.
abbrev pub RefusedLeast : LinkKind → List (List ℕ) → ElabError → Type 0
RefusedLeast kind names (Link given name) = (given ≡ kind) × (least_of names ≡ Some name.items)
RefusedLeast kind names (BadType given at) = ⊥
RefusedLeast kind names Memory = ⊤

-- An error is the fault of this kind with the least name, or want of memory.
pub record IsLeast (linked : Units) (kind : LinkKind) (name : List ℕ) : Type 0 where
  pub fault : IsFault linked kind name
  pub no_lesser : (n : List ℕ) → IsTrue (is_lesser n name) → IsFault linked kind n → ⊥

abbrev pub IsLeastFault : Units → LinkKind → ElabError → Type 0
IsLeastFault linked kind (Link given name) = (given ≡ kind) × IsLeast linked kind name.items
IsLeastFault linked kind (BadType given at) = ⊥
IsLeastFault linked kind Memory = ⊤

-- An error in linking is the first fault, or want of memory.
abbrev pub NotLinked : Units → ElabError → Type 0
NotLinked linked (Link kind name) = IsFirstFault linked kind name.items
NotLinked linked (BadType kind at) = ⊥
NotLinked linked Memory = ⊤

-- ---- compatible declarations

abbrev pub FitsSort : List PlainTag → Sort → Option Sort → Type 0
FitsSort tags sort None = ⊤
FitsSort tags sort (Some other) = SortsAgree tags sort other

-- one of the sorts doesn't agree with this one
pub record IsApartFrom (tags : List PlainTag) (sort : Sort) (others : List (Option Sort)) : Type 0 where
  pub other : Sort
  pub declared : IsIn (Some other) others
  pub apart : SortsAgree tags sort other → ⊥

-- what is told of the rest is told of the whole
pub record Reaches (rest_fits whole_fits rest_apart whole_apart : Type 0) : Type 0 where
  pub fits : rest_fits → whole_fits
  pub apart : rest_apart → whole_apart

-- two sorts of the lists don't agree
pub record AreApartIn (tags : List PlainTag) (firsts others : List (Option Sort)) : Type 0 where
  pub first : Sort
  pub declared : IsIn (Some first) firsts
  pub apart : IsApartFrom tags first others

-- what a built-in header declares fits this
abbrev pub IsFitting : List PlainTag → Option Sort → Sort → Type 0
IsFitting tags None sort = ⊤
IsFitting tags (Some first) sort = SortsAgree tags first sort

-- what a unit declares the name as, if it does so with external linkage, and all declarations fit one another
abbrev pub FitsHere : List PlainTag → List Unit → List ℕ → Option Sort → Type 0
FitsHere tags units name None = ⊤
FitsHere tags units name (Some sort) = IsFitting tags (built_in_sort name) sort × AllOf (FitsSort tags sort) (external_sorts units name)

abbrev pub IsApartHere : List PlainTag → List Unit → List ℕ → Option Sort → Type 0
IsApartHere tags units name None = ⊥
IsApartHere tags units name (Some sort) = (IsFitting tags (built_in_sort name) sort → ⊥) ⊎ IsApartFrom tags sort (external_sorts units name)

-- the unit declares the name as what doesn't fit a declaration
abbrev pub IsApartOf : List PlainTag → List Unit → Unit → List ℕ → Type 0
IsApartOf tags units unit name = IsApartHere tags units name (external_sort name unit)

-- one of the units after the first list does so
abbrev pub IsApartAmong : List PlainTag → List Unit → List Unit → List ℕ → Type 0
IsApartAmong tags units [] name = ⊥
IsApartAmong tags units (unit ∷ rest) name = IsApartOf tags units unit name ⊎ IsApartAmong tags units rest name

-- two declarations of the name with external linkage aren't compatible
abbrev pub AreApartNamed : List PlainTag → List Unit → List ℕ → Type 0
AreApartNamed tags units name = AreApartIn tags (external_sorts units name) (external_sorts units name)

-- ---- lists of names that have a fault

-- The names that are new are the candidates of which this is true.
pub record Adds (P : List ℕ → Type 0) (candidates old new : List (List ℕ)) : Type 0 where
  pub kept : (name : List ℕ) → IsIn name old → IsIn name new
  pub holds : (name : List ℕ) → IsIn name new → IsIn name old ⊎ (IsIn name candidates × P name)
  pub complete : (name : List ℕ) → IsIn name candidates → P name → IsIn name new

-- The names that are new are those of which this is true.
pub record Collects (P : List ℕ → Type 0) (old new : List (List ℕ)) : Type 0 where
  pub kept : (name : List ℕ) → IsIn name old → IsIn name new
  pub holds : (name : List ℕ) → IsIn name new → IsIn name old ⊎ P name
  pub complete : (name : List ℕ) → P name → IsIn name new

abbrev pub not_available : List Left → Left → List ℕ → Bool
not_available units unit name = not (is_available (map (plain_unit 0) units) (plain_unit 0 unit) name)

abbrev pub undefined_in : List Left → Left → List (List ℕ)
undefined_in units unit = filter (not_available units unit) (key_texts unit.used.names)

abbrev pub undefined_names : List Left → List Left → List (List ℕ)
undefined_names units [] = []
undefined_names units (unit ∷ rest) = undefined_in units unit ++ undefined_names units rest

abbrev pub duplicate_in : List Left → Left → List (List ℕ)
duplicate_in units unit = filter (is_duplicate (map (plain_unit 0) units)) (map (λ (d : Defined). d.name.items) unit.defined.list.items)

abbrev pub duplicate_names : List Left → List Left → List (List ℕ)
duplicate_names units [] = []
duplicate_names units (unit ∷ rest) = duplicate_in units unit ++ duplicate_names units rest

-- a function of a built-in header with one parameter, or none
abbrev pub listed_parameter : Option PlainType → List PlainType
listed_parameter None = []
listed_parameter (Some ty) = ty ∷ []

abbrev pub signature_sort : PlainType → Option PlainType → Sort
signature_sort result parameter = function (record { result = result; parameters = listed_parameter parameter })

abbrev pub tag_of : Struct → PlainTag
tag_of s = record { name = s.name; members = s.members; complete = s.complete }
