-- Units that don't link have a first fault: only so many names can have one.
use Rattle.std.proofs.Common.{◌≡◌, ℕ, ◌+◌, ◌<◌, ◌≤◌, nat_le, Bool, true, false, not, ◌&&◌, ◌||◌, ◌==◌, List, [], ◌∷◌, ◌++◌, map, length, get_or, ⊎_elim, inl, inr, refl, sym, subst, arith, IsTrue, zero, suc}
use Rattle.std.specs.Prelude.{◌⊎◌, Option, Some, None, is_some, option_map, codes, if◌then◌else◌}
use Rattle.std.specs.List.{list_any}
use Rattle.std.specs.Str.{bytes_eq}
use Rattle.std.specs.Cmp.Lexicographic.{bytes_decides}
use Rattle.std.proofs.lemmas.Bool.{cases_Bool, or_cases, and_parts}
use Rattle.std.proofs.lemmas.Bool.Decides.{nat_tests}
use Rattle.c_tree.specs.Trees.{PlainTree, none}
use Rattle.c_text.specs.Token.{PlainToken}
use Rattle.core_meaning.specs.declared.refusals.LinkKind.{LinkKind}
use Rattle.core_meaning.specs.declared.refusals.LinkKind.TheVariants as link
use Rattle.core_meaning.specs.declared.refusals.TypeKind.{TypeKind}
use Rattle.core_meaning.specs.declared.program.BuiltIn.TheVariants.{Putchar, Getchar, Puts, Exit}
use Rattle.core_meaning.specs.Program.{PlainProgram}
use Rattle.core_meaning.specs.Checking.{Entity, file_entity, local_entity, local_of_function, struct_entity, member_entity, own_entity, Binding, Checked, fine, refused, broken, ◌>>=◌, give}
use Rattle.core_meaning.specs.Entities.{Struct, Sort, function, FileName, Numbers}
use Rattle.core_meaning.specs.UnitNames.{Defined, UnitState, judged_unit}
use Rattle.core_meaning.specs.Linking.{Unit, Units, is_use_of, uses_in, closed, judged_units, judged_program, IsFault, IsFirstFault, Links, link_number, is_lesser, is_internal, defines, count_whole, count_defined, count_external, count_in_unit, is_duplicate, built_in_named, built_in_signature, is_available, built_in_sort, external_sort, external_sorts, program_of, IsElaborated, IsBadlyTyped, IsBadlyLinked, numbers_in, literals_of, no_numbers, listed}
use Rattle.core_meaning.specs.Judgings.{NoUnitsAreLeftOut}
use Rattle.core_meaning.proofs.NameOrder.{Among, among_left, among_right, lesser_trans, lesser_not_itself}
use Rattle.core_meaning.proofs.Outlines.{bound, given_is, unit_supported}

-- of the names among these that have a property one is the least
least_among : (P : List ℕ → Type 0) (names : List (List ℕ)) (best : List ℕ) → P best → ((found : List ℕ) → P found → ((m : List ℕ) → Among names m → is_lesser m found ≡ true → P m → ⊥) → ⊥) → ⊥
least_among P [] best h goal = goal best h (λ m among less p. among)
least_among P (x ∷ xs) best h goal =
    least_among P xs best h (λ found p least.
    let kept : ((P x → is_lesser x found ≡ true → ⊥) → ⊥) = λ never. goal found p (λ m among less q. ⊎_elim
    (λ (e : m ≡ x). never (subst P e q) (subst (λ (n : List ℕ). is_lesser n found ≡ true) e less))
    (λ (a : Among xs m). least m a less q)
    among) in
    kept (λ q less. goal x q (λ m among lesser r. ⊎_elim
    (λ (e : m ≡ x). lesser_not_itself x (subst (λ (n : List ℕ). is_lesser n x ≡ true) e lesser))
    (λ (a : Among xs m). least m a (lesser_trans m x found lesser less) r)
    among)))

-- only these names can have a fault
record Suspects (linked : Units) : Type 0 where
  names : List (List ℕ)
  all : (kind : LinkKind) (name : List ℕ) → IsFault linked kind name → Among names name

truth : (b : Bool) → b ≡ true → IsTrue b
truth b e = subst IsTrue (sym e) refl

true_of : (b : Bool) → IsTrue b → b ≡ true
true_of b h = h

-- a kind of which there is a fault, and no fault of an earlier kind, has a first one
first_of : (linked : Units) (s : Suspects linked) (kind : LinkKind) → ((name : List ℕ) → IsFirstFault linked kind name → ⊥) → ((other : LinkKind) (n : List ℕ) → link_number other < link_number kind → IsFault linked other n → ⊥) → (name : List ℕ) → IsFault linked kind name → ⊥
first_of linked s kind never earlier name h =
    least_among (IsFault linked kind) s.names name h (λ found p least.
    never found (record {
      fault = p;
      no_earlier = earlier;
      no_lesser = λ n less q. least n (s.all kind n q) (true_of (is_lesser n found) less) q;
    }))

before_main : (linked : Units) (other : LinkKind) (n : List ℕ) → link_number other < link_number link.NoMain → IsFault linked other n → ⊥
before_main linked link.NoMain n less h = absurd (omega arith)
before_main linked link.Undefined n less h = absurd (omega arith)
before_main linked link.Duplicate n less h = absurd (omega arith)
before_main linked link.Incompatible n less h = absurd (omega arith)

before_undefined : (linked : Units) → ((name : List ℕ) → IsFault linked link.NoMain name → ⊥) → (other : LinkKind) (n : List ℕ) → link_number other < link_number link.Undefined → IsFault linked other n → ⊥
before_undefined linked main link.NoMain n less h = main n h
before_undefined linked main link.Undefined n less h = absurd (omega arith)
before_undefined linked main link.Duplicate n less h = absurd (omega arith)
before_undefined linked main link.Incompatible n less h = absurd (omega arith)

before_duplicate : (linked : Units) → ((name : List ℕ) → IsFault linked link.NoMain name → ⊥) → ((name : List ℕ) → IsFault linked link.Undefined name → ⊥) → (other : LinkKind) (n : List ℕ) → link_number other < link_number link.Duplicate → IsFault linked other n → ⊥
before_duplicate linked main undefined link.NoMain n less h = main n h
before_duplicate linked main undefined link.Undefined n less h = undefined n h
before_duplicate linked main undefined link.Duplicate n less h = absurd (omega arith)
before_duplicate linked main undefined link.Incompatible n less h = absurd (omega arith)

each_kind : (linked : Units) → ((name : List ℕ) → IsFault linked link.NoMain name → ⊥) → ((name : List ℕ) → IsFault linked link.Undefined name → ⊥) → ((name : List ℕ) → IsFault linked link.Duplicate name → ⊥) → ((name : List ℕ) → IsFault linked link.Incompatible name → ⊥) → (kind : LinkKind) (name : List ℕ) → IsFault linked kind name → ⊥
each_kind linked main undefined duplicate incompatible link.NoMain name h = main name h
each_kind linked main undefined duplicate incompatible link.Undefined name h = undefined name h
each_kind linked main undefined duplicate incompatible link.Duplicate name h = duplicate name h
each_kind linked main undefined duplicate incompatible link.Incompatible name h = incompatible name h

before_incompatible : (linked : Units) → ((name : List ℕ) → IsFault linked link.NoMain name → ⊥) → ((name : List ℕ) → IsFault linked link.Undefined name → ⊥) → ((name : List ℕ) → IsFault linked link.Duplicate name → ⊥) → (other : LinkKind) (n : List ℕ) → link_number other < link_number link.Incompatible → IsFault linked other n → ⊥
before_incompatible linked main undefined duplicate link.NoMain n less h = main n h
before_incompatible linked main undefined duplicate link.Undefined n less h = undefined n h
before_incompatible linked main undefined duplicate link.Duplicate n less h = duplicate n h
before_incompatible linked main undefined duplicate link.Incompatible n less h = absurd (omega arith)

links_or_fault : (linked : Units) → Suspects linked → (Links linked → ⊥) → ((kind : LinkKind) (name : List ℕ) → IsFirstFault linked kind name → ⊥) → ⊥
links_or_fault linked s unlinked never =
    let main : (name : List ℕ) → IsFault linked link.NoMain name → ⊥ = first_of linked s link.NoMain (never link.NoMain) (before_main linked) in
    let undefined : (name : List ℕ) → IsFault linked link.Undefined name → ⊥ = first_of linked s link.Undefined (never link.Undefined) (before_undefined linked main) in
    let duplicate : (name : List ℕ) → IsFault linked link.Duplicate name → ⊥ = first_of linked s link.Duplicate (never link.Duplicate) (before_duplicate linked main undefined) in
    let incompatible : (name : List ℕ) → IsFault linked link.Incompatible name → ⊥ = first_of linked s link.Incompatible (never link.Incompatible) (before_incompatible linked main undefined duplicate) in
    unlinked (record { no_fault = each_kind linked main undefined duplicate incompatible })

-- ---- only so many names stand in units

abbrev used_name : Entity → List (List ℕ)
used_name (file_entity used) = used ∷ []
used_name other = []

abbrev used_names : List Binding → List (List ℕ)
used_names [] = []
used_names (b ∷ rest) = used_name b.entity ++ used_names rest

same_name : (a b : List ℕ) → bytes_eq a b ≡ true → b ≡ a
same_name a b is = sym ((bytes_decides a b).0 is)

use_among : (e : Entity) (name : List ℕ) → is_use_of name e ≡ true → Among (used_name e) name
use_among (file_entity used) name is = inl (same_name used name is)
use_among (local_entity slot) name is = absurd cc
use_among (local_of_function n slot) name is = absurd cc
use_among (struct_entity n) name is = absurd cc
use_among (member_entity n m) name is = absurd cc
use_among own_entity name is = absurd cc

uses_among : (bindings : List Binding) (name : List ℕ) → uses_in bindings name ≡ true → Among (used_names bindings) name
uses_among [] name is = absurd cc
uses_among (b ∷ rest) name is = ⊎_elim
    (λ (here : (b.in_expression && is_use_of name b.entity) ≡ true). among_left (used_name b.entity) (used_names rest) name (use_among b.entity name (and_parts b.in_expression (is_use_of name b.entity) here).1))
    (λ (there : uses_in rest name ≡ true). among_right (used_name b.entity) (used_names rest) name (uses_among rest name there))
    (or_cases (b.in_expression && is_use_of name b.entity) (uses_in rest name) is)

defined_among : (defined : List Defined) (name : List ℕ) → list_any (λ d. bytes_eq d.name name) defined ≡ true → Among (map (λ d. d.name) defined) name
defined_among [] name is = absurd cc
defined_among (d ∷ rest) name is = ⊎_elim
    (λ (here : bytes_eq d.name name ≡ true). inl (same_name d.name name here))
    (λ (there : list_any (λ d. bytes_eq d.name name) rest ≡ true). inr (defined_among rest name there))
    (or_cases (bytes_eq d.name name) (list_any (λ d. bytes_eq d.name name) rest) is)

record Finite (unit : Unit) : Type 0 where
  used : List (List ℕ)
  uses : (name : List ℕ) → unit.uses name ≡ true → Among used name
  declares : (name : List ℕ) → is_some (unit.names name) ≡ true → Among unit.order name

abbrev AllFinite : List Unit → Type 0
AllFinite [] = Prim.Unit {0}
AllFinite (unit ∷ rest) = Finite unit × AllFinite rest

finite_both : (us vs : List Unit) → AllFinite us → AllFinite vs → AllFinite (us ++ vs)
finite_both [] vs f g = g
finite_both (u ∷ us) vs f g = (f.0, finite_both us vs f.1 g)

closed_finite : (c : Checked UnitState) (after : Units) (bindings : List Binding) → ((state : UnitState) (own : List Binding) → c ≡ fine state own → (name : List ℕ) → is_some (state.scope.file_names name) ≡ true → Among state.scope.order name) → closed c ≡ fine after bindings → AllFinite after.units
closed_finite (fine state own) after bindings declared h =
    let unit : Unit = record { names = state.scope.file_names; order = state.scope.order; defined = state.defined; uses = uses_in own } in
    let units : Units = record { units = unit ∷ []; structs = state.scope.structs } in
    let one : Finite unit = record { used = used_names own; uses = uses_among own; declares = declared state own refl } in
    subst (λ (x : Units). AllFinite x.units) (given_is units after bindings h) (one, tt)
closed_finite (refused kind token) after bindings declared h = absurd cc
closed_finite broken after bindings declared h = absurd cc

units_finite : (numbers : ℕ → Numbers) (globals : ℕ) (trees : List PlainTree) (index : ℕ) (structs : List Struct) (after : Units) (bindings : List Binding) → judged_units numbers globals index structs trees ≡ fine after bindings → AllFinite after.units
units_finite numbers globals [] index structs after bindings h = subst (λ (x : Units). AllFinite x.units) (given_is (record { units = []; structs = structs }) after bindings h) tt
units_finite numbers globals (tree ∷ rest) index structs after bindings h =
    let given_as : Units → Units → Checked Units = λ first others. give (record { units = first.units ++ others.units; structs = others.structs }) in
    let others_of : Units → Checked Units = λ first. judged_units numbers globals (index + 1) first.structs rest >>= given_as first in
    let first = bound (closed (judged_unit globals structs (numbers index) tree)) others_of after bindings h in
    let others = bound (judged_units numbers globals (index + 1) first.value.structs rest) (given_as first.value) after first.behind first.rest in
    let one : AllFinite first.value.units = closed_finite (judged_unit globals structs (numbers index) tree) first.value first.before (λ state own g. unit_supported globals structs (numbers index) tree state own g) first.first in
    let more_ : AllFinite others.value.units = units_finite numbers globals rest (index + 1) first.value.structs others.value others.before others.first in
    subst (λ (x : Units). AllFinite x.units) (given_is (record { units = first.value.units ++ others.value.units; structs = others.value.structs }) after others.behind others.rest)
    (finite_both first.value.units others.value.units one more_)

abbrev all_names : (us : List Unit) → AllFinite us → List (List ℕ)
all_names [] f = []
all_names (u ∷ us) f = (f.0.used ++ (u.order ++ map (λ d. d.name) u.defined)) ++ all_names us f.1

use_of_unit : (u : Unit) (f : Finite u) (name : List ℕ) → u.uses name ≡ true → Among (f.used ++ (u.order ++ map (λ d. d.name) u.defined)) name
use_of_unit u f name is = among_left f.used (u.order ++ map (λ d. d.name) u.defined) name (f.uses name is)

name_of_unit : (u : Unit) (f : Finite u) (name : List ℕ) → is_some (u.names name) ≡ true → Among (f.used ++ (u.order ++ map (λ d. d.name) u.defined)) name
name_of_unit u f name is = among_right f.used (u.order ++ map (λ d. d.name) u.defined) name (among_left u.order (map (λ d. d.name) u.defined) name (f.declares name is))

definition_of_unit : (u : Unit) (f : Finite u) (name : List ℕ) → defines u name ≡ true → Among (f.used ++ (u.order ++ map (λ d. d.name) u.defined)) name
definition_of_unit u f name is = among_right f.used (u.order ++ map (λ d. d.name) u.defined) name (among_right u.order (map (λ d. d.name) u.defined) name (defined_among u.defined name is))

-- a name that some unit passes a test with, where the unit has the name
among_units : (test : Unit → Bool) (name : List ℕ) → ((u : Unit) (f : Finite u) → test u ≡ true → Among (f.used ++ (u.order ++ map (λ d. d.name) u.defined)) name) → (us : List Unit) (f : AllFinite us) → list_any test us ≡ true → Among (all_names us f) name
among_units test name here [] f is = absurd cc
among_units test name here (u ∷ us) f is = ⊎_elim
    (λ (first : test u ≡ true). among_left (f.0.used ++ (u.order ++ map (λ d. d.name) u.defined)) (all_names us f.1) name (here u f.0 first))
    (λ (later : list_any test us ≡ true). among_right (f.0.used ++ (u.order ++ map (λ d. d.name) u.defined)) (all_names us f.1) name (among_units test name here us f.1 later))
    (or_cases (test u) (list_any test us) is)

-- ---- tests

first_false : (a b : Bool) → (a || b) ≡ false → a ≡ false
first_false true b is = absurd cc
first_false false b is = refl

rest_false : (a b : Bool) → (a || b) ≡ false → b ≡ false
rest_false true b is = absurd cc
rest_false false b is = is

counted_without : (b : Bool) (n : ℕ) → n ≡ 0 → (if b && false then 1 else n) ≡ 0
counted_without true n is = is
counted_without false n is = is

counted_later : (internal : Bool) (n rest : ℕ) → n ≡ 0 → 1 ≤ (if internal then 0 else n) + rest → 1 ≤ rest
counted_later true n rest is some = omega arith
counted_later false n rest is some = omega arith

counted_inside : (internal : Bool) (n : ℕ) → nat_le 2 (if internal then n else 0) ≡ true → 1 ≤ n
counted_inside true n is = let two : 2 ≤ n = grind (arith, nat_tests) in omega arith
counted_inside false n is = absurd cc

two_at_least : (n : ℕ) → nat_le 2 n ≡ true → 1 ≤ n
two_at_least n is = let two : 2 ≤ n = grind (arith, nat_tests) in omega arith

one_at_least : (n : ℕ) → nat_le 1 n ≡ true → 1 ≤ n
one_at_least n is = grind (arith, nat_tests)

duplicate_by : (a b c d : Bool) (P : Type 0) → (a ≡ true → P) → (b ≡ true → P) → (d ≡ true → P) → (a || b || c && d) ≡ true → P
duplicate_by true b c d P f g h is = f refl
duplicate_by false true c d P f g h is = g refl
duplicate_by false false true d P f g h is = h is
duplicate_by false false false d P f g h is = absurd cc

some_mapped : {A : Type 0} (f : A → Sort) (found : Option A) (sort : Sort) → option_map f found ≡ Some sort → is_some found ≡ true
some_mapped f None sort is = absurd cc
some_mapped f (Some x) sort is = refl

some_external : (n : Option FileName) (sort : Sort) → (elim n as (λ x. Option Sort) [ None ↦ None | Some n ↦ if n.internal then None else Some n.sort ]) ≡ Some sort → is_some n ≡ true
some_external None sort is = absurd cc
some_external (Some n) sort is = refl

-- ---- what isn't defined isn't counted

whole_none : (defined : List Defined) (name : List ℕ) → list_any (λ d. bytes_eq d.name name) defined ≡ false → count_whole defined name ≡ 0
whole_none [] name is = refl
whole_none (d ∷ rest) name is =
    let here : bytes_eq d.name name ≡ false = first_false (bytes_eq d.name name) (list_any (λ d. bytes_eq d.name name) rest) is in
    let there : list_any (λ d. bytes_eq d.name name) rest ≡ false = rest_false (bytes_eq d.name name) (list_any (λ d. bytes_eq d.name name) rest) is in
    let none : count_whole rest name ≡ 0 = whole_none rest name there in
    rw here (omega (arith, none))

count_none : (u : Unit) (name : List ℕ) → defines u name ≡ false → count_defined u name ≡ 0
count_none u name is = rw is (counted_without (count_whole u.defined name == 0) (count_whole u.defined name) (whole_none u.defined name is))

is_defined : (u : Unit) (name : List ℕ) → 1 ≤ count_defined u name → defines u name ≡ true
is_defined u name some = ⊎_elim
    (λ (yes_ : defines u name ≡ true). yes_)
    (λ (no_ : defines u name ≡ false). absurd (let none : count_defined u name ≡ 0 = count_none u name no_ in omega arith))
    (cases_Bool (defines u name))

counted_among : (name : List ℕ) (us : List Unit) (f : AllFinite us) → 1 ≤ count_external us name → Among (all_names us f) name
counted_among name [] f some = absurd (omega arith)
counted_among name (u ∷ us) f some = ⊎_elim
    (λ (yes_ : defines u name ≡ true). among_left (f.0.used ++ (u.order ++ map (λ d. d.name) u.defined)) (all_names us f.1) name (definition_of_unit u f.0 name yes_))
    (λ (no_ : defines u name ≡ false). among_right (f.0.used ++ (u.order ++ map (λ d. d.name) u.defined)) (all_names us f.1) name (counted_among name us f.1 (counted_later (is_internal u name) (count_defined u name) (count_external us name) (count_none u name no_) some)))
    (cases_Bool (defines u name))

count_of_unit : (u : Unit) (f : Finite u) (name : List ℕ) → nat_le 2 (count_in_unit u name) ≡ true → Among (f.used ++ (u.order ++ map (λ d. d.name) u.defined)) name
count_of_unit u f name is = definition_of_unit u f name (is_defined u name (counted_inside (is_internal u name) (count_defined u name) is))

-- ---- names that are built in

abbrev built_in_names : List (List ℕ)
built_in_names = codes "putchar" ∷ codes "getchar" ∷ codes "puts" ∷ codes "exit" ∷ []

built_in_by : (name : List ℕ) (a b c d : Bool) → bytes_eq name (codes "putchar") ≡ a → bytes_eq name (codes "getchar") ≡ b → bytes_eq name (codes "puts") ≡ c → bytes_eq name (codes "exit") ≡ d → is_some (if a then Some Putchar else if b then Some Getchar else if c then Some Puts else if d then Some Exit else None) ≡ true → Among built_in_names name
built_in_by name true b c d p q r s is = inl ((bytes_decides name (codes "putchar")).0 p)
built_in_by name false true c d p q r s is = inr (inl ((bytes_decides name (codes "getchar")).0 q))
built_in_by name false false true d p q r s is = inr (inr (inl ((bytes_decides name (codes "puts")).0 r)))
built_in_by name false false false true p q r s is = inr (inr (inr (inl ((bytes_decides name (codes "exit")).0 s))))
built_in_by name false false false false p q r s is = absurd cc

built_in_among : (name : List ℕ) → is_some (built_in_named name) ≡ true → Among built_in_names name
built_in_among name is = built_in_by name (bytes_eq name (codes "putchar")) (bytes_eq name (codes "getchar")) (bytes_eq name (codes "puts")) (bytes_eq name (codes "exit")) refl refl refl refl is

sort_built_in : (name : List ℕ) (sort : Sort) → built_in_sort name ≡ Some sort → is_some (built_in_named name) ≡ true
sort_built_in name sort is = some_mapped (λ b. function (built_in_signature b)) (built_in_named name) sort is

sort_of_unit : (name : List ℕ) (u : Unit) (sort : Sort) → external_sort name u ≡ Some sort → is_some (u.names name) ≡ true
sort_of_unit name u sort is = some_external (u.names name) sort is

sort_at : (name : List ℕ) (sort : Sort) (us : List Unit) (f : AllFinite us) (i : ℕ) → i < length (map (external_sort name) us) → get_or (map (external_sort name) us) i (Some sort) ≡ Some sort → Among (all_names us f) name
sort_at name sort [] f i inside is = absurd (omega arith)
sort_at name sort (u ∷ us) f zero inside is = among_left (f.0.used ++ (u.order ++ map (λ d. d.name) u.defined)) (all_names us f.1) name (name_of_unit u f.0 name (sort_of_unit name u sort is))
sort_at name sort (u ∷ us) f (suc i) inside is = among_right (f.0.used ++ (u.order ++ map (λ d. d.name) u.defined)) (all_names us f.1) name (sort_at name sort us f.1 i (omega arith) is)

abbrev suspect_names : (us : List Unit) → AllFinite us → List (List ℕ)
suspect_names us f = codes "main" ∷ (built_in_names ++ all_names us f)

declared_suspect : (name : List ℕ) (sort : Sort) (us : List Unit) (f : AllFinite us) (i : ℕ) → i < length (external_sorts us name) → get_or (external_sorts us name) i (Some sort) ≡ Some sort → Among (suspect_names us f) name
declared_suspect name sort us f zero inside is = inr (among_left built_in_names (all_names us f) name (built_in_among name (sort_built_in name sort is)))
declared_suspect name sort us f (suc i) inside is = inr (among_right built_in_names (all_names us f) name (sort_at name sort us f i (omega arith) is))

suspect : (linked : Units) (f : AllFinite linked.units) (kind : LinkKind) (name : List ℕ) → IsFault linked kind name → Among (suspect_names linked.units f) name
suspect linked f link.NoMain name h = inl h.0
suspect linked f link.Undefined name h =
    let test : Unit → Bool = λ unit. unit.uses name && not (is_available linked.units unit name) in
    inr (among_right built_in_names (all_names linked.units f) name (among_units test name (λ u g is. use_of_unit u g name (and_parts (u.uses name) (not (is_available linked.units u name)) is).0) linked.units f (true_of (list_any test linked.units) h)))
suspect linked f link.Duplicate name h =
    let twice : Unit → Bool = λ unit. nat_le 2 (count_in_unit unit name) in
    let found : Among (all_names linked.units f) name = duplicate_by (nat_le 2 (count_external linked.units name)) (list_any twice linked.units) (is_some (built_in_named name)) (nat_le 1 (count_external linked.units name)) (Among (all_names linked.units f) name)
    (λ is. counted_among name linked.units f (two_at_least (count_external linked.units name) is))
    (λ is. among_units twice name (λ u g e. count_of_unit u g name e) linked.units f is)
    (λ is. counted_among name linked.units f (one_at_least (count_external linked.units name) is))
    (true_of (is_duplicate linked.units name) h) in
    inr (among_right built_in_names (all_names linked.units f) name found)
suspect linked f link.Incompatible name h = declared_suspect name h.first linked.units f h.declares_first.0 h.declares_first.1 h.declares_first.2

linked_suspects : (linked : Units) → AllFinite linked.units → Suspects linked
linked_suspects linked f = record { names = suspect_names linked.units f; all = suspect linked f }

-- ---- what comes of units

program_finite : (trees : List PlainTree) (linked : Units) (bindings : List Binding) → judged_program trees ≡ fine linked bindings → AllFinite linked.units
program_finite trees linked bindings h =
    let next : Units → Checked Units = λ first. judged_units (numbers_in first.units (literals_of trees)) (length (listed first.units false)) 0 [] trees in
    let first = bound (judged_units no_numbers 0 0 [] trees) next linked bindings h in
    units_finite (numbers_in first.value.units (literals_of trees)) (length (listed first.value.units false)) trees 0 [] linked first.behind first.rest

left_out_by : (trees : List PlainTree) (c : Checked Units) → judged_program trees ≡ c → ((p : PlainProgram) → IsElaborated trees p → ⊥) → ((kind : TypeKind) → (token : PlainToken) → IsBadlyTyped trees kind token → ⊥) → ((kind : LinkKind) → (name : List ℕ) → IsBadlyLinked trees kind name → ⊥) → (judged_program trees ≡ broken → ⊥) → ⊥
left_out_by trees (fine linked bindings) is program typed unlinked whole =
    links_or_fault linked (linked_suspects linked (program_finite trees linked bindings is))
    (λ links. program (program_of trees linked) (record { linked = linked; bindings = bindings; judged = is; links = links; program = refl }))
    (λ kind name first. unlinked kind name (record { linked = linked; bindings = bindings; judged = is; first = first }))
left_out_by trees (refused kind token) is program typed unlinked whole = typed kind token (record { judged = is })
left_out_by trees broken is program typed unlinked whole = whole is

pub no_units_are_left_out : NoUnitsAreLeftOut
no_units_are_left_out trees program typed unlinked whole = left_out_by trees (judged_program trees) refl program typed unlinked whole
