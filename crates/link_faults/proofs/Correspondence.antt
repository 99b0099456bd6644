-- Declarations in units and what is seen of them, one by one.
use Rattle.std.proofs.Common.{◌≡◌, inl, inr, ℕ, Bool, true, false, ◌||◌, List, [], ◌∷◌, map, refl, sym, subst, arith}
use Rattle.std.specs.Prelude.{◌⊎◌, ◌↔◌, Option, Some, None, option_map, is_some, slice_get, filter, ⊤, if◌then◌else◌}
use Rattle.std.specs.List.{list_any, AllZip, Contains}
use Rattle.std.proofs.lemmas.Bool.{false≢true}
use Rattle.c_types.specs.Types.{PlainType, void, char, int, pointer_to}
use Rattle.c_types.specs.Tags.{PlainTag}
use Rattle.c_types.specs.Compatible.{Compatible, Agree}
use Rattle.core_meaning.specs.Entities.{Struct, Sort, function, tags_of}
use Rattle.core_meaning.specs.Entities as scopes
use Rattle.core_meaning.specs.Linking.{Unit, Units, SortsAgree, external_sort, external_sorts, built_in_sort, built_in_named, built_in_signature, AreApart}
use Rattle.core_meaning.specs.declared.program.BuiltIn.{BuiltIn}
use Rattle.core_meaning.specs.declared.program.BuiltIn.TheVariants.{Putchar, Getchar, Puts, Exit}
use Rattle.operand_types.specs.OperandTypes.{struct_in}
use Rattle.type_tables.specs.Tables.{FileName, sort_in}
use Rattle.type_tables.specs.Seen.{seen_tables}
use Rattle.type_tables.specs.declared.tables.Tables.{Tables}
use Rattle.type_tables.specs.Follows.{IsThere, SortIsThere, StructFollows, NameFollows}
use Rattle.cond_compatible.specs.SeenTags.{tags_seen}
use Rattle.cond_compatible.proofs.AgreeingSorts.{renumbered_sort, sort_followed, renumbered_stay}
use Rattle.link_faults.specs.declared.left.LeftUnit.{LeftUnit}
use Rattle.link_faults.specs.SeenUnits.{LeavesAlike, LeaveAlike, unit_seen, name_seen, name_in, is_present}
use Rattle.link_faults.specs.Apart.{SomeAreApart, AreSeenApart}
use Rattle.link_faults.specs.Faulty.{StructsFollow}
use Rattle.link_faults.proofs.ApartLaws.{in_head, in_tail, in_none, in_cases}

-- ---- lists that correspond

module _ {X Y : Type 0} (R : X → Y → Type 0) where
  pub found_right : (xs : List X) (ys : List Y) → AllZip R xs ys → (x : X) → Contains xs x → (y : Y) × Contains ys y × R x y
  found_right [] [] h x m = absurd (in_none x m)
  found_right [] (y ∷ ys) h x m = absurd h
  found_right (a ∷ xs) [] h x m = absurd h
  found_right (a ∷ xs) (b ∷ ys) h x m = by (in_cases a xs x m) (found_right xs ys h.1 x)
    where
      by : (a ≡ x) ⊎ Contains xs x → (Contains xs x → (y : Y) × Contains ys y × R x y) → (y : Y) × Contains (b ∷ ys) y × R x y
      by (inl e) found = (b, in_head b ys, subst (λ z. R z b) e h.0)
      by (inr m) found = let f = found m in (f.0, in_tail b ys f.0 f.1, f.2)

  pub found_left : (xs : List X) (ys : List Y) → AllZip R xs ys → (y : Y) → Contains ys y → (x : X) × Contains xs x × R x y
  found_left [] [] h y m = absurd (in_none y m)
  found_left [] (y ∷ ys) h z m = absurd h
  found_left (a ∷ xs) [] h y m = absurd h
  found_left (a ∷ xs) (b ∷ ys) h y m = by (in_cases b ys y m) (found_left xs ys h.1 y)
    where
      by : (b ≡ y) ⊎ Contains ys y → (Contains ys y → (x : X) × Contains xs x × R x y) → (x : X) × Contains (a ∷ xs) x × R x y
      by (inl e) found = (a, in_head a xs, subst (λ z. R a z) e h.0)
      by (inr m) found = let f = found m in (f.0, in_tail a xs f.0 f.1, f.2)

-- ---- functions of headers

module _ (structs : List Struct) where
  no_struct : (ty : PlainType) → struct_in ty ≡ None → IsThere structs ty
  no_struct ty none n e = cc

  header_there : (b : BuiltIn) → SortIsThere structs (function (built_in_signature b))
  header_there Putchar = (no_struct int refl, (no_struct int refl, tt))
  header_there Getchar = (no_struct int refl, tt)
  header_there Puts = (no_struct int refl, (no_struct (pointer_to char) refl, tt))
  header_there Exit = (no_struct void refl, (no_struct int refl, tt))

module _ (tags : List PlainTag) where
  alone : (ty : PlainType) → Agree [] ty ty → Compatible tags tags ty ty
  alone ty h = record { pairs = []; agree = h; closed = λ k d low. absurd (omega (arith, low)) }

  header_agrees : (b : BuiltIn) → SortsAgree tags (function (built_in_signature b)) (function (built_in_signature b))
  header_agrees Putchar = (alone int refl, (alone int refl, tt))
  header_agrees Getchar = (alone int refl, tt)
  header_agrees Puts = (alone int refl, (alone (pointer_to char) refl, tt))
  header_agrees Exit = (alone void refl, (alone int refl, tt))

-- ---- units and what is seen of them

module _ (on : ℕ → Bool) (tables : Tables) (structs : List Struct) (numbers : ℕ → ℕ)
    (follow : (n : ℕ) (s : Struct) → slice_get structs n ≡ Some s → StructFollows numbers (seen_tables on tables) structs n s) where
  abbrev renumbered : Sort → Sort
  renumbered a = renumbered_sort on tables structs numbers follow a

  abbrev pub Corresponds : Option Sort → Option Sort → Type 0
  Corresponds None None = ⊤
  Corresponds (Some a) (Some x) = (x ≡ renumbered a) × SortIsThere structs a
  Corresponds a x = ⊥

  header_corresponds : (o : Option BuiltIn) → Corresponds (option_map (λ b. function (built_in_signature b)) o) (option_map (λ b. function (built_in_signature b)) o)
  header_corresponds None = tt
  header_corresponds (Some b) = (same b, header_there structs b)
    where
      same : (b : BuiltIn) → function (built_in_signature b) ≡ renumbered (function (built_in_signature b))
      same Putchar = refl
      same Getchar = refl
      same Puts = refl
      same Exit = refl

  name_corresponds : (n : Option scopes.FileName) (m : Option FileName) → NameFollows numbers (seen_tables on tables).signatures n m
      → ((k : scopes.FileName) → n ≡ Some k → SortIsThere structs k.sort)
      → Corresponds (elim n as (λ x. Option Sort) [ None ↦ None | Some k ↦ if k.internal then None else Some k.sort ])
      (elim (option_map (name_in (seen_tables on tables).signatures) m) as (λ x. Option Sort) [ None ↦ None | Some k ↦ if k.internal then None else Some k.sort ])
  name_corresponds None None h there = tt
  name_corresponds None (Some m) h there = absurd h
  name_corresponds (Some n) None h there = absurd h
  name_corresponds (Some n) (Some m) h there = both n.internal m.internal h.1
    where
      both : (i j : Bool) → j ≡ i → Corresponds (if i then None else Some n.sort) (if j then None else Some (sort_in (seen_tables on tables).signatures m.sort))
      both true true e = tt
      both true false e = absurd (false≢true e)
      both false true e = absurd (false≢true (sym e))
      both false false e = (sort_followed on tables structs numbers follow n.sort m.sort h.0, there n refl)

  units_correspond : (name : List ℕ) (units : List Unit) (lefts : List LeftUnit) → AllZip (LeavesAlike on tables numbers structs) units lefts
      → AllZip Corresponds (map (external_sort name) units) (map (external_sort name) (map (unit_seen on tables) lefts))
  units_correspond name [] [] h = tt
  units_correspond name [] (left ∷ lefts) h = absurd h
  units_correspond name (unit ∷ units) [] h = absurd h
  units_correspond name (unit ∷ units) (left ∷ lefts) h = (
    name_corresponds (unit.names name) (name_seen on left.names name) (h.0.names name) (h.0.there name),
    units_correspond name units lefts h.1,
  )

  abbrev Apart : Sort → Sort → Type 0
  Apart a b = SortsAgree (tags_of structs) a b → ⊥

  abbrev SeenApart : Sort → Sort → Type 0
  SeenApart x y = SortsAgree (tags_seen on tables) x y → ⊥

  module _ (name : List ℕ) (units : List Unit) (lefts : List LeftUnit) (h : AllZip (LeavesAlike on tables numbers structs) units lefts) where
    abbrev seen_sorts : List (Option Sort)
    seen_sorts = external_sorts (map (unit_seen on tables) lefts) name

    all_correspond : AllZip Corresponds (external_sorts units name) seen_sorts
    all_correspond = (header_corresponds (built_in_named name), units_correspond name units lefts h)

    -- a declaration of the units, and what is seen of it
    seen_of : (a : Sort) → Contains (external_sorts units name) (Some a) → (x : Sort) × Contains seen_sorts (Some x) × (x ≡ renumbered a) × SortIsThere structs a
    seen_of a m = let f = found_right Corresponds (external_sorts units name) seen_sorts all_correspond (Some a) m in of_option f.0 f.1 f.2
      where
        of_option : (o : Option Sort) → Contains seen_sorts o → Corresponds (Some a) o → (x : Sort) × Contains seen_sorts (Some x) × (x ≡ renumbered a) × SortIsThere structs a
        of_option None m h = absurd h
        of_option (Some x) m h = (x, m, h.0, h.1)

    unit_of : (x : Sort) → Contains seen_sorts (Some x) → (a : Sort) × Contains (external_sorts units name) (Some a) × (x ≡ renumbered a) × SortIsThere structs a
    unit_of x m = let f = found_left Corresponds (external_sorts units name) seen_sorts all_correspond (Some x) m in of_option f.0 f.1 f.2
      where
        of_option : (o : Option Sort) → Contains (external_sorts units name) o → Corresponds o (Some x) → (a : Sort) × Contains (external_sorts units name) (Some a) × (x ≡ renumbered a) × SortIsThere structs a
        of_option None m h = absurd h
        of_option (Some a) m h = (a, m, h.0, h.1)

    pub seen_apart : SomeAreApart (tags_of structs) (external_sorts units name) → SomeAreApart (tags_seen on tables) seen_sorts
    seen_apart k =
        let one = seen_of k.first k.declares_first in
        let other = seen_of k.second k.declares_second in
        record {
          first = one.0;
          second = other.0;
          declares_first = one.1;
          declares_second = other.1;
          apart = λ agree. k.apart ((renumbered_stay on tables structs numbers follow k.first k.second one.3 other.3).1
              (subst (λ x. SortsAgree (tags_seen on tables) x (renumbered k.second)) one.2 (subst (λ y. SortsAgree (tags_seen on tables) one.0 y) other.2 agree)));
        }

    pub units_apart : SomeAreApart (tags_seen on tables) seen_sorts → SomeAreApart (tags_of structs) (external_sorts units name)
    units_apart k =
        let one = unit_of k.first k.declares_first in
        let other = unit_of k.second k.declares_second in
        record {
          first = one.0;
          second = other.0;
          declares_first = one.1;
          declares_second = other.1;
          apart = λ agree. k.apart (subst (λ x. SortsAgree (tags_seen on tables) x k.second) (sym one.2)
              (subst (λ y. SortsAgree (tags_seen on tables) (renumbered one.0) y) (sym other.2)
              ((renumbered_stay on tables structs numbers follow one.0 other.0 one.3 other.3).0 agree)));
        }

pub incompatible_seen : (on : ℕ → Bool) (tables : Tables) (by : ℕ → ℕ) (linked : Units) (units : List LeftUnit) → StructsFollow by (seen_tables on tables) linked.structs
    → LeaveAlike on tables by linked units → (name : List ℕ) → AreApart linked name ↔ AreSeenApart on tables units name
incompatible_seen on tables by linked units follow h name =
    let lefts = filter (is_present on) units in (
      λ k. seen_apart on tables linked.structs by follow name linked.units lefts h
          (record { first = k.first; second = k.second; declares_first = k.declares_first; declares_second = k.declares_second; apart = k.apart }),
      λ k. let found = units_apart on tables linked.structs by follow name linked.units lefts h k in
          record { first = found.first; second = found.second; declares_first = found.declares_first; declares_second = found.declares_second; apart = found.apart },
    )

-- ---- names that no unit declares

-- what a list of units declares as nothing
module _ (name : List ℕ) where
  not_external : (n : Option scopes.FileName) (s : Sort) → is_some n ≡ false
      → (elim n as (λ x. Option Sort) [ None ↦ None | Some k ↦ if k.internal then None else Some k.sort ]) ≡ Some s → ⊥
  not_external None s h e = cc
  not_external (Some n) s h e = false≢true (sym h)

  either_not : (a b : Bool) → (a || b) ≡ false → (a ≡ false) × (b ≡ false)
  either_not true b h = absurd (false≢true (sym h))
  either_not false b h = (refl, h)

  undeclared : (units : List Unit) → list_any (λ unit. is_some (unit.names name)) units ≡ false → (s : Sort) → Contains (map (external_sort name) units) (Some s) → ⊥
  undeclared [] h s m = in_none (Some s) m
  undeclared (unit ∷ units) h s m =
      let parts = either_not (is_some (unit.names name)) (list_any (λ unit. is_some (unit.names name)) units) h in
      which parts.0 (undeclared units parts.1 s) (in_cases (external_sort name unit) (map (external_sort name) units) (Some s) m)
    where
      which : is_some (unit.names name) ≡ false → (Contains (map (external_sort name) units) (Some s) → ⊥)
          → (external_sort name unit ≡ Some s) ⊎ Contains (map (external_sort name) units) (Some s) → ⊥
      which none later (inl e) = not_external (unit.names name) s none e
      which none later (inr m) = later m

  only_header : (units : List Unit) → list_any (λ unit. is_some (unit.names name)) units ≡ false → (s : Sort) → Contains (external_sorts units name) (Some s) → built_in_sort name ≡ Some s
  only_header units h s m = which (in_cases (built_in_sort name) (map (external_sort name) units) (Some s) m)
    where
      which : (built_in_sort name ≡ Some s) ⊎ Contains (map (external_sort name) units) (Some s) → built_in_sort name ≡ Some s
      which (inl e) = e
      which (inr m) = absurd (undeclared units h s m)

header_alone : (tags : List PlainTag) (o : Option BuiltIn) (a b : Sort) → option_map (λ b. function (built_in_signature b)) o ≡ Some a
    → option_map (λ b. function (built_in_signature b)) o ≡ Some b → SortsAgree tags a b
header_alone tags None a b e f = cc
header_alone tags (Some h) a b e f =
    let one : function (built_in_signature h) ≡ a = cc in
    let other : function (built_in_signature h) ≡ b = cc in
    subst (λ x. SortsAgree tags x b) one (subst (λ y. SortsAgree tags (function (built_in_signature h)) y) other (header_agrees tags h))

pub undeclared_agree : (linked : Units) (name : List ℕ) → list_any (λ unit. is_some (unit.names name)) linked.units ≡ false → AreApart linked name → ⊥
undeclared_agree linked name h k =
    k.apart (header_alone (tags_of linked.structs) (built_in_named name) k.first k.second
    (only_header name linked.units h k.first k.declares_first) (only_header name linked.units h k.second k.declares_second))
