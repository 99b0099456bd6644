-- What is seen of units has the faults that the units have.
use Rattle.std.proofs.Common.{◌≡◌, ℕ, ◌+◌, nat_le, Bool, true, false, not, ◌&&◌, ◌||◌, ◌==◌, List, [], ◌∷◌, map, refl, sym, ap, ap₂, ◌∙◌, codes}
use Rattle.std.specs.Prelude.{Option, Some, None, option_map, is_some, if◌then◌else◌}
use Rattle.std.specs.List.{list_any, AllZip}
use Rattle.std.specs.Str.{bytes_eq}
use Rattle.c_types.specs.Types.{PlainType, void, char, unsigned_char, int, unsigned_int, long, unsigned_long, pointer_to, array_of, structure}
use Rattle.operand_types.specs.OperandTypes.{renumbered}
use Rattle.core_meaning.specs.Entities.{Struct, Signature, variable, function}
use Rattle.core_meaning.specs.Entities as scopes
use Rattle.core_meaning.specs.Typing.{same_type}
use Rattle.core_meaning.specs.UnitNames.{Defined, same_types}
use Rattle.core_meaning.specs.Linking.{Unit, is_internal, is_main, is_tentative, defines, defines_main, count_whole, count_defined, count_external, count_in_unit, is_available, is_duplicate, built_in_named}
use Rattle.type_tables.specs.Tables.{Sort, object, declared_function, FileName, sort_in}
use Rattle.type_tables.specs.Seen.{seen_tables}
use Rattle.type_tables.specs.declared.tables.Tables.{Tables}
use Rattle.type_tables.specs.Follows.{NameFollows, SortFollows}
use Rattle.type_tables.specs.Definitions.{plain_definitions}
use Rattle.link_faults.specs.declared.left.LeftUnit.{LeftUnit}
use Rattle.link_faults.specs.SeenUnits.{LeavesAlike, unit_seen, name_seen, name_in, body_of, definition_of, is_undefined}

-- ---- definitions

defines_seen : (ds : List Defined) (name : List ℕ) → list_any (λ d. bytes_eq d.name name) ds ≡ list_any (λ d. bytes_eq d.name name) (map definition_of (plain_definitions ds))
defines_seen [] name = refl
defines_seen (d ∷ ds) name = ap (λ b. bytes_eq d.name name || b) (defines_seen ds name)

pub tentative_seen : (t : Bool) → t ≡ is_tentative (body_of t)
tentative_seen true = refl
tentative_seen false = refl

whole_seen : (ds : List Defined) (name : List ℕ) → count_whole ds name ≡ count_whole (map definition_of (plain_definitions ds)) name
whole_seen [] name = refl
whole_seen (d ∷ ds) name =
    ap₂ (λ (t : Bool) (n : ℕ). (if bytes_eq d.name name && not t then 1 else 0) + n) (tentative_seen (is_tentative d.body)) (whole_seen ds name)

-- ---- names

module _ (by : ℕ → ℕ) (signatures : ℕ → Signature) where
  internal_of : (n : Option scopes.FileName) (m : Option FileName) → NameFollows by signatures n m
      → elim n as (λ x. Bool) [ None ↦ false | Some k ↦ k.internal ] ≡ elim (option_map (name_in signatures) m) as (λ x. Bool) [ None ↦ false | Some k ↦ k.internal ]
  internal_of None None h = refl
  internal_of None (Some m) h = absurd h
  internal_of (Some n) None h = absurd h
  internal_of (Some n) (Some m) h = sym h.1

  int_renumbered : (ty : PlainType) → same_type ty int ≡ same_type (renumbered by ty) int
  int_renumbered void = refl
  int_renumbered char = refl
  int_renumbered unsigned_char = refl
  int_renumbered int = refl
  int_renumbered unsigned_int = refl
  int_renumbered long = refl
  int_renumbered unsigned_long = refl
  int_renumbered (pointer_to t) = refl
  int_renumbered (array_of t count) = refl
  int_renumbered (structure n) = refl

  none_renumbered : (types : List PlainType) → same_types types [] ≡ same_types (map (renumbered by) types) []
  none_renumbered [] = refl
  none_renumbered (ty ∷ types) = refl

  main_of_sort : (s : scopes.Sort) (t : Sort) → SortFollows by signatures s t → is_main s ≡ is_main (sort_in signatures t)
  main_of_sort (variable ty) (object other) h = refl
  main_of_sort (variable ty) (declared_function number) h = absurd h
  main_of_sort (function f) (object other) h = absurd h
  main_of_sort (function f) (declared_function number) h =
      ap₂ (λ (a b : Bool). a && b) (int_renumbered f.result) (none_renumbered f.parameters)
      ∙ sym (ap (λ (g : Signature). is_main (function g)) h)

  main_of : (n : Option scopes.FileName) (m : Option FileName) (d e : Bool) → NameFollows by signatures n m → d ≡ e
      → elim n as (λ x. Bool) [ None ↦ false | Some k ↦ not k.internal && is_main k.sort && d ]
      ≡ elim (option_map (name_in signatures) m) as (λ x. Bool) [ None ↦ false | Some k ↦ not k.internal && is_main k.sort && e ]
  main_of None None d e h same = refl
  main_of None (Some m) d e h same = absurd h
  main_of (Some n) None d e h same = absurd h
  main_of (Some n) (Some m) d e h same =
      ap (λ (i : Bool). not i && is_main n.sort && d) (sym h.1)
      ∙ ap₂ (λ (t b : Bool). not m.internal && t && b) (main_of_sort n.sort m.sort h.0) same

-- ---- units

module _ (on : ℕ → Bool) (tables : Tables) (by : ℕ → ℕ) (structs : List Struct) where
  internal_seen : (unit : Unit) (left : LeftUnit) → LeavesAlike on tables by structs unit left → (name : List ℕ) → is_internal unit name ≡ is_internal (unit_seen on tables left) name
  internal_seen unit left h name = internal_of by (seen_tables on tables).signatures (unit.names name) (name_seen on left.names name) (h.names name)

  unit_defines : (unit : Unit) (left : LeftUnit) → LeavesAlike on tables by structs unit left → (name : List ℕ) → defines unit name ≡ defines (unit_seen on tables left) name
  unit_defines unit left h name = defines_seen unit.defined name ∙ ap (λ ds. list_any (λ d. bytes_eq d.name name) (map definition_of ds)) h.defined

  unit_counts : (unit : Unit) (left : LeftUnit) → LeavesAlike on tables by structs unit left → (name : List ℕ) → count_defined unit name ≡ count_defined (unit_seen on tables left) name
  unit_counts unit left h name =
      ap₂ (λ (n : ℕ) (b : Bool). if n == 0 && b then 1 else n)
      (whole_seen unit.defined name ∙ ap (λ ds. count_whole (map definition_of ds) name) h.defined) (unit_defines unit left h name)

  unit_main : (unit : Unit) (left : LeftUnit) → LeavesAlike on tables by structs unit left → defines_main unit ≡ defines_main (unit_seen on tables left)
  unit_main unit left h =
      main_of by (seen_tables on tables).signatures (unit.names (codes "main")) (name_seen on left.names (codes "main"))
      (defines unit (codes "main")) (defines (unit_seen on tables left) (codes "main")) (h.names (codes "main")) (unit_defines unit left h (codes "main"))

  unit_twice : (name : List ℕ) (unit : Unit) (left : LeftUnit) → LeavesAlike on tables by structs unit left → nat_le 2 (count_in_unit unit name) ≡ nat_le 2 (count_in_unit (unit_seen on tables left) name)
  unit_twice name unit left h =
      ap₂ (λ (i : Bool) (n : ℕ). nat_le 2 (if i then n else 0)) (internal_seen unit left h name) (unit_counts unit left h name)

  -- ---- lists of units

  any_seen : (p q : Unit → Bool) → ((unit : Unit) (left : LeftUnit) → LeavesAlike on tables by structs unit left → p unit ≡ q (unit_seen on tables left))
      → (units : List Unit) (lefts : List LeftUnit) → AllZip (LeavesAlike on tables by structs) units lefts → list_any p units ≡ list_any q (map (unit_seen on tables) lefts)
  any_seen p q each [] [] h = refl
  any_seen p q each [] (left ∷ lefts) h = absurd h
  any_seen p q each (unit ∷ units) [] h = absurd h
  any_seen p q each (unit ∷ units) (left ∷ lefts) h = ap₂ (λ (a b : Bool). a || b) (each unit left h.0) (any_seen p q each units lefts h.1)

  external_seen : (units : List Unit) (lefts : List LeftUnit) → AllZip (LeavesAlike on tables by structs) units lefts → (name : List ℕ)
      → count_external units name ≡ count_external (map (unit_seen on tables) lefts) name
  external_seen [] [] h name = refl
  external_seen [] (left ∷ lefts) h name = absurd h
  external_seen (unit ∷ units) [] h name = absurd h
  external_seen (unit ∷ units) (left ∷ lefts) h name =
      ap₂ (λ (i : Bool) (n : ℕ). (if i then 0 else n) + count_external units name) (internal_seen unit left h.0 name) (unit_counts unit left h.0 name)
      ∙ ap (λ n. (if is_internal (unit_seen on tables left) name then 0 else count_defined (unit_seen on tables left) name) + n) (external_seen units lefts h.1 name)

  module _ (units : List Unit) (lefts : List LeftUnit) (h : AllZip (LeavesAlike on tables by structs) units lefts) where
    pub main_seen : list_any defines_main units ≡ list_any defines_main (map (unit_seen on tables) lefts)
    main_seen = any_seen defines_main defines_main unit_main units lefts h

    available_seen : (name : List ℕ) (unit : Unit) (left : LeftUnit) → LeavesAlike on tables by structs unit left
        → is_available units unit name ≡ is_available (map (unit_seen on tables) lefts) (unit_seen on tables left) name
    available_seen name unit left a =
        ap₂ (λ (i b : Bool). if i then b else nat_le 1 (count_external units name) || is_some (built_in_named name)) (internal_seen unit left a name) (unit_defines unit left a name)
        ∙ ap (λ n. if is_internal (unit_seen on tables left) name then defines (unit_seen on tables left) name else nat_le 1 n || is_some (built_in_named name)) (external_seen units lefts h name)

    pub undefined_seen : (name : List ℕ) → list_any (is_undefined units name) units
        ≡ list_any (is_undefined (map (unit_seen on tables) lefts) name) (map (unit_seen on tables) lefts)
    undefined_seen name =
        any_seen (is_undefined units name) (is_undefined (map (unit_seen on tables) lefts) name)
        (λ unit left a. ap₂ (λ (u b : Bool). u && not b) (a.uses name) (available_seen name unit left a)) units lefts h

    pub duplicate_seen : (name : List ℕ) → is_duplicate units name ≡ is_duplicate (map (unit_seen on tables) lefts) name
    duplicate_seen name =
        ap₂ (λ (n : ℕ) (b : Bool). nat_le 2 n || b || is_some (built_in_named name) && nat_le 1 n) (external_seen units lefts h name)
        (any_seen (λ unit. nat_le 2 (count_in_unit unit name)) (λ unit. nat_le 2 (count_in_unit unit name)) (unit_twice name) units lefts h)
