-- Linking (ISO/IEC 9899:2011, 6.2.2, 6.9), and the core program of the units.
use Rattle.std.specs.Prelude.{◌≡◌, ℕ, ◌+◌, ◌<◌, ◌==◌, nat_le, nat_lt, Bool, true, false, not, ◌&&◌, ◌||◌, List, [], ◌∷◌, ◌++◌, length, map, filter, codes, Option, Some, None, is_some, option_map, slice_get, if◌then◌else◌, IsTrue}
use Rattle.std.specs.List.{list_any, AllZip, Contains}
use Rattle.std.specs.Str.{bytes_eq}
use Rattle.c_text.specs.Token.{PlainToken}
use Rattle.c_types.specs.Types.{PlainType, void, char, int, pointer_to}
use Rattle.c_types.specs.Compatible.{Compatible}
use Rattle.c_tree.specs.declared.kinds.Kind.TheVariants as k
use Rattle.c_tree.specs.Trees.{PlainTree, PlainTrees, leaf, node, none, more}
use Rattle.core_meaning.specs.declared.program.BuiltIn.{BuiltIn}
use Rattle.core_meaning.specs.declared.program.BuiltIn.TheVariants.{Putchar, Getchar, Puts, Exit}
use Rattle.core_meaning.specs.declared.refusals.LinkKind.{LinkKind}
use Rattle.core_meaning.specs.declared.refusals.LinkKind.TheVariants as link
use Rattle.core_meaning.specs.declared.refusals.TypeKind.{TypeKind}
use Rattle.core_meaning.specs.Program.{PlainConstantPart, PlainFunction, defined, built_in, PlainGlobal, PlainProgram}
use Rattle.core_meaning.specs.Checking.{Entity, file_entity, Binding, Checked, fine, refused, broken, ◌>>=◌, give}
use Rattle.core_meaning.specs.Entities.{Table, no_entry, Struct, Signature, Sort, variable, function, FileName, Numbers, tags_of}
use Rattle.core_meaning.specs.Expressions.{text_bytes}
use Rattle.core_meaning.specs.UnitNames.{Body, object_body, tentative_body, function_body, Defined, UnitState, judged_unit, same_sort}
use Rattle.c_types.specs.Tags.{PlainTag}

-- what a unit leaves for linking
pub record Unit : Type 0 where
  pub names : Table FileName
  pub order : List (List ℕ)
  pub defined : List Defined
  -- whether an expression uses a name of file scope
  pub uses : List ℕ → Bool

-- all units, and their structs
pub record Units : Type 0 where
  pub units : List Unit
  pub structs : List Struct

abbrev pub is_use_of : List ℕ → Entity → Bool
is_use_of name (file_entity used) = bytes_eq used name
is_use_of name other = false

-- whether the bindings use a name of file scope in an expression
abbrev pub uses_in : List Binding → List ℕ → Bool
uses_in bindings name = list_any (λ b. b.in_expression && is_use_of name b.entity) bindings

-- a unit with the names that it uses
abbrev pub closed : Checked UnitState → Checked Units
closed (fine state bindings) = give (record {
  units = record { names = state.scope.file_names; order = state.scope.order; defined = state.defined; uses = uses_in bindings } ∷ [];
  structs = state.scope.structs;
})
closed (refused kind token) = refused kind token
closed broken = broken

-- the units from one on, in their order
abbrev pub judged_units : (ℕ → Numbers) → ℕ → ℕ → List Struct → List PlainTree → Checked Units
judged_units numbers globals index structs [] = give (record { units = []; structs = structs })
judged_units numbers globals index structs (tree ∷ rest) = do
  first ← closed (judged_unit globals structs (numbers index) tree)
  others ← judged_units numbers globals (index + 1) first.structs rest
  give (record { units = first.units ++ others.units; structs = others.structs })

-- ---- definitions of a name

abbrev pub is_internal : Unit → List ℕ → Bool
is_internal unit name = elim (unit.names name) as (λ x. Bool) [ None ↦ false | Some n ↦ n.internal ]

abbrev pub is_tentative : Body → Bool
is_tentative tentative_body = true
is_tentative other = false

abbrev pub defines : Unit → List ℕ → Bool
defines unit name = list_any (λ d. bytes_eq d.name name) unit.defined

-- how many definitions of a name the unit has: those that are tentative are one together, and none beside another
abbrev pub count_whole : List Defined → List ℕ → ℕ
count_whole [] name = 0
count_whole (d ∷ rest) name = (if bytes_eq d.name name && not (is_tentative d.body) then 1 else 0) + count_whole rest name

abbrev pub count_defined : Unit → List ℕ → ℕ
count_defined unit name =
    if count_whole unit.defined name == 0 && defines unit name then 1 else count_whole unit.defined name

abbrev pub count_external : List Unit → List ℕ → ℕ
count_external [] name = 0
count_external (unit ∷ rest) name = (if is_internal unit name then 0 else count_defined unit name) + count_external rest name

abbrev pub count_in_unit : Unit → List ℕ → ℕ
count_in_unit unit name = if is_internal unit name then count_defined unit name else 0

-- ---- the functions of the built-in headers

abbrev pub built_in_named : List ℕ → Option BuiltIn
built_in_named name =
    if bytes_eq name (codes "putchar") then Some Putchar else if bytes_eq name (codes "getchar") then Some Getchar
    else if bytes_eq name (codes "puts") then Some Puts else if bytes_eq name (codes "exit") then Some Exit else None

abbrev pub built_in_signature : BuiltIn → Signature
built_in_signature Putchar = record { result = int; parameters = int ∷ [] }
built_in_signature Getchar = record { result = int; parameters = [] }
built_in_signature Puts = record { result = int; parameters = pointer_to char ∷ [] }
built_in_signature Exit = record { result = void; parameters = int ∷ [] }

-- ---- what doesn't link

abbrev pub is_available : List Unit → Unit → List ℕ → Bool
is_available units unit name =
    if is_internal unit name then defines unit name
    else nat_le 1 (count_external units name) || is_some (built_in_named name)

abbrev pub is_main : Sort → Bool
is_main sort = same_sort sort (function (record { result = int; parameters = [] }))

abbrev pub defines_main : Unit → Bool
defines_main unit = elim (unit.names (codes "main")) as (λ x. Bool) [
  | None ↦ false
  | Some n ↦ not n.internal && is_main n.sort && defines unit (codes "main")
]

abbrev pub is_duplicate : List Unit → List ℕ → Bool
is_duplicate units name =
    nat_le 2 (count_external units name) || list_any (λ unit. nat_le 2 (count_in_unit unit name)) units
    || is_some (built_in_named name) && nat_le 1 (count_external units name)

abbrev pub TypesAgree : List PlainTag → PlainType → PlainType → Type 0
TypesAgree tags a b = Compatible tags tags a b

abbrev pub SortsAgree : List PlainTag → Sort → Sort → Type 0
SortsAgree tags (variable a) (variable b) = TypesAgree tags a b
SortsAgree tags (function f) (function g) = TypesAgree tags f.result g.result × AllZip (TypesAgree tags) f.parameters g.parameters
SortsAgree tags a b = ⊥

-- a unit, or a built-in header, declares the name with external linkage as this
abbrev pub external_sort : List ℕ → Unit → Option Sort
external_sort name unit = elim (unit.names name) as (λ x. Option Sort) [
  | None ↦ None
  | Some n ↦ if n.internal then None else Some n.sort
]

abbrev pub built_in_sort : List ℕ → Option Sort
built_in_sort name = option_map (λ b. function (built_in_signature b)) (built_in_named name)

abbrev pub external_sorts : List Unit → List ℕ → List (Option Sort)
external_sorts units name = built_in_sort name ∷ map (external_sort name) units

pub record AreApart (linked : Units) (name : List ℕ) : Type 0 where
  pub first : Sort
  pub second : Sort
  pub declares_first : Contains (external_sorts linked.units name) (Some first)
  pub declares_second : Contains (external_sorts linked.units name) (Some second)
  pub apart : SortsAgree (tags_of linked.structs) first second → ⊥

-- what is wrong with a name
abbrev pub IsFault : Units → LinkKind → List ℕ → Type 0
IsFault linked link.NoMain name = (name ≡ codes "main") × IsTrue (not (list_any defines_main linked.units))
IsFault linked link.Undefined name = IsTrue (list_any (λ unit. unit.uses name && not (is_available linked.units unit name)) linked.units)
IsFault linked link.Duplicate name = IsTrue (is_duplicate linked.units name)
IsFault linked link.Incompatible name = AreApart linked name

abbrev pub link_number : LinkKind → ℕ
link_number link.NoMain = 1
link_number link.Undefined = 2
link_number link.Duplicate = 3
link_number link.Incompatible = 4

-- the order of names by their bytes
abbrev pub is_lesser : List ℕ → List ℕ → Bool
is_lesser [] [] = false
is_lesser [] (b ∷ bs) = true
is_lesser (a ∷ as_) [] = false
is_lesser (a ∷ as_) (b ∷ bs) = nat_lt a b || (a == b && is_lesser as_ bs)

-- the first fault, by number and then by name
pub record IsFirstFault (linked : Units) (kind : LinkKind) (name : List ℕ) : Type 0 where
  pub fault : IsFault linked kind name
  pub no_earlier : (other : LinkKind) → (n : List ℕ) → link_number other < link_number kind → IsFault linked other n → ⊥
  pub no_lesser : (n : List ℕ) → IsTrue (is_lesser n name) → IsFault linked kind n → ⊥

pub record Links (linked : Units) : Type 0 where
  pub no_fault : (kind : LinkKind) → (name : List ℕ) → IsFault linked kind name → ⊥

-- ---- numbers, in the order of first declarations

-- a name with external linkage, or an internal one with the number of its unit
pub record Linked : Type 0 where
  pub name : List ℕ
  pub unit : Option ℕ

abbrev pub same_unit : Option ℕ → Option ℕ → Bool
same_unit None None = true
same_unit (Some a) (Some b) = a == b
same_unit a b = false

abbrev pub same_linked : Linked → Linked → Bool
same_linked a b = bytes_eq a.name b.name && same_unit a.unit b.unit

abbrev pub linked_in : ℕ → Unit → List ℕ → Linked
linked_in index unit name = record { name = name; unit = if is_internal unit name then Some index else None }

abbrev pub all_linked : (Unit → List ℕ → Bool) → ℕ → List Unit → List Linked
all_linked wanted index [] = []
all_linked wanted index (unit ∷ rest) =
    map (linked_in index unit) (filter (wanted unit) unit.order) ++ all_linked wanted (index + 1) rest

abbrev pub added_once : List Linked → Linked → List Linked
added_once known e = if list_any (same_linked e) known then known else known ++ e ∷ []

abbrev pub each_once : List Linked → List Linked → List Linked
each_once known [] = known
each_once known (e ∷ rest) = each_once (added_once known e) rest

-- the objects that are defined, and the functions that are defined or built in
abbrev pub is_of_sort : Bool → Option FileName → Bool
is_of_sort functions None = false
is_of_sort functions (Some n) = elim n.sort as (λ x. Bool) [ variable ty ↦ not functions | function signature ↦ functions ]

abbrev pub is_wanted : List Unit → Bool → Unit → List ℕ → Bool
is_wanted units functions unit name = is_of_sort functions (unit.names name) && is_available units unit name

abbrev pub listed : List Unit → Bool → List Linked
listed units functions = each_once [] (all_linked (is_wanted units functions) 0 units)

abbrev pub or_zero : Option ℕ → ℕ
or_zero (Some n) = n
or_zero None = 0

abbrev pub place_where : {A : Type 0} → (A → Bool) → List A → Option ℕ
place_where test [] = None
place_where test (first ∷ rest) = if test first then Some 0 else option_map (λ n. n + 1) (place_where test rest)

-- a unit has the name in its list of those that are wanted
abbrev pub lists : List Unit → Bool → Unit → List ℕ → Bool
lists units functions unit name = list_any (bytes_eq name) (filter (is_wanted units functions unit) unit.order)

abbrev pub number_in : List Unit → Bool → ℕ → Option Unit → List ℕ → Option ℕ
number_in units functions index None name = None
number_in units functions index (Some unit) name =
    if lists units functions unit name then place_where (same_linked (linked_in index unit name)) (listed units functions) else None

-- ---- texts

abbrev mutual
  pub texts_in : PlainTree → List (List ℕ)
  texts_in (leaf token) = []
  texts_in (node k.Texts parts) = elim (text_bytes parts) as (λ x. List (List ℕ)) [ None ↦ [] | Some bytes ↦ bytes ∷ [] ]
  texts_in (node kind parts) = texts_in_all parts

  pub texts_in_all : PlainTrees → List (List ℕ)
  texts_in_all none = []
  texts_in_all (more tree rest) = texts_in tree ++ texts_in_all rest

abbrev pub with_text : List (List ℕ) → List ℕ → List (List ℕ)
with_text known bytes = if list_any (bytes_eq bytes) known then known else known ++ bytes ∷ []

abbrev pub different_texts : List (List ℕ) → List (List ℕ) → List (List ℕ)
different_texts known [] = known
different_texts known (bytes ∷ rest) = different_texts (with_text known bytes) rest

abbrev pub texts_of_units : List PlainTree → List (List ℕ)
texts_of_units [] = []
texts_of_units (tree ∷ rest) = texts_in tree ++ texts_of_units rest

-- the literals of the units: their texts, equal ones once
abbrev pub literals_of : List PlainTree → List (List ℕ)
literals_of units = different_texts [] (texts_of_units units)

-- ---- the core program

abbrev pub no_numbers : ℕ → Numbers
no_numbers index = record { globals = no_entry; functions = no_entry; literals = no_entry }

abbrev pub numbers_in : List Unit → List (List ℕ) → ℕ → Numbers
numbers_in units literals index = record {
  globals = number_in units false index (slice_get units index);
  functions = number_in units true index (slice_get units index);
  literals = λ bytes. place_where (bytes_eq bytes) literals;
}

-- the units: judged once to know their names, and then with the numbers that these have
abbrev pub judged_program : List PlainTree → Checked Units
judged_program trees = do
  first ← judged_units no_numbers 0 0 [] trees
  judged_units (numbers_in first.units (literals_of trees)) (length (listed first.units false)) 0 [] trees

-- the definition of a name in one of the units, with its type there
abbrev pub whole_body : List Defined → List ℕ → Option Body
whole_body [] name = None
whole_body (d ∷ rest) name = if bytes_eq d.name name && not (is_tentative d.body) then Some d.body else whole_body rest name

abbrev pub sort_in : Unit → List ℕ → Option Sort
sort_in unit name = option_map (λ n. n.sort) (unit.names name)

abbrev pub defines_linked : Linked → ℕ → Unit → Bool
defines_linked e index unit = same_linked e (linked_in index unit e.name) && defines unit e.name

abbrev pub unit_of : Linked → ℕ → List Unit → Option Unit
unit_of e index [] = None
unit_of e index (unit ∷ rest) = if defines_linked e index unit then Some unit else unit_of e (index + 1) rest

abbrev pub type_of_sort : Option Sort → PlainType
type_of_sort (Some (variable ty)) = ty
type_of_sort other = void

abbrev pub parts_of_body : Option Body → List PlainConstantPart
parts_of_body (Some (object_body parts)) = parts
parts_of_body other = []

abbrev pub global_in : Linked → Option Unit → PlainGlobal
global_in e None = record { ty = void; parts = [] }
global_in e (Some unit) = record { ty = type_of_sort (sort_in unit e.name); parts = parts_of_body (whole_body unit.defined e.name) }

abbrev pub function_of_body : Option Body → PlainFunction
function_of_body (Some (function_body slots items)) = defined slots items
function_of_body other = built_in Exit

abbrev pub built_in_or_exit : Option BuiltIn → BuiltIn
built_in_or_exit (Some b) = b
built_in_or_exit None = Exit

abbrev pub function_in : Linked → Option Unit → PlainFunction
function_in e None = built_in (built_in_or_exit (built_in_named e.name))
function_in e (Some unit) = function_of_body (whole_body unit.defined e.name)

-- The core program of units that link.
abbrev pub program_of : List PlainTree → Units → PlainProgram
program_of trees linked = record {
  structs = map (λ s. map (λ m. m.ty) s.members) linked.structs;
  functions = map (λ e. function_in e (unit_of e 0 linked.units)) (listed linked.units true);
  globals = map (λ e. global_in e (unit_of e 0 linked.units)) (listed linked.units false);
  literals = literals_of trees;
  main = or_zero (place_where (same_linked (record { name = codes "main"; unit = None })) (listed linked.units true));
}

-- What comes of the units.
pub record IsElaborated (trees : List PlainTree) (p : PlainProgram) : Type 0 where
  pub linked : Units
  pub bindings : List Binding
  pub judged : judged_program trees ≡ fine linked bindings
  pub links : Links linked
  pub program : p ≡ program_of trees linked

pub record IsBadlyTyped (trees : List PlainTree) (kind : TypeKind) (token : PlainToken) : Type 0 where
  pub judged : judged_program trees ≡ refused kind token

pub record IsBadlyLinked (trees : List PlainTree) (kind : LinkKind) (name : List ℕ) : Type 0 where
  pub linked : Units
  pub bindings : List Binding
  pub judged : judged_program trees ≡ fine linked bindings
  pub first : IsFirstFault linked kind name
