-- What a unit leaves stays so where further units are declared, and the next unit begins behind its structs.
use Rattle.std.proofs.Common.{arith, ◌≡◌, ℕ, zero, suc, ◌+◌, ◌<◌, Bool, true, false, List, [], ◌∷◌, ◌++◌, length, refl, sym, ap, ap₂, ◌∙◌, subst, length-append}
use Rattle.std.specs.Prelude.{Option, Some, None, option_map, slice_get, filter, if◌then◌else◌}
use Rattle.std.specs.List.{AllZip}
use Rattle.c_types.specs.Tags.{PlainMember}
use Rattle.conditional.specs.Entries.{seen, listed}
use Rattle.core_meaning.specs.Entities.{Struct, Signature, Numbers, Scope}
use Rattle.core_meaning.specs.Entities as scopes
use Rattle.core_meaning.specs.Linking as linking
use Rattle.core_meaning.specs.UnitNames.{UnitState, unit_start}
use Rattle.type_tables.specs.Tables.{Tables, Sort, object, declared_function, FileName}
use Rattle.type_tables.specs.Steps.{unit_begun}
use Rattle.type_tables.specs.Seen.{seen_tables, signature_of}
use Rattle.type_tables.specs.declared.entries.CondSignature.{CondSignature}
use Rattle.type_tables.specs.declared.tables.Tables as code
use Rattle.type_tables.specs.Follows.{IsNumbered, SortFollows, NameFollows, SortIsThere, StructFollows, Follows}
use Rattle.type_tables.specs.Numbers.{FollowsBy, NumbersKept}
use Rattle.type_tables.proofs.NameLaws.{nothing_begun}
use Rattle.type_tables.proofs.Renumbering.{Has, name_follows, sort_still_there}
use Rattle.type_tables.specs.declared.definitions.Definition.{Definition}
use Rattle.conditional.specs.declared.lists.CondList.{CondList}
use Rattle.cond_units.specs.Seen.{SeenUnit, seen_unit}
use Rattle.type_tables.specs.Definitions.{PlainDefinition, definition_form, plain_definitions}
use Rattle.cond_units.specs.Declaring.{IsUnit}
use Rattle.link_faults.specs.SeenUnits.{name_seen}
use Rattle.cond_types.specs.Leaving.{sort_behind, name_behind, without_functions, begun, unit_before_all}
use Rattle.cond_types.specs.Units.{IsLeft}
use Rattle.cond_types.specs.declared.units.TypedUnit.{TypedUnit}

-- ---- where a unit begins

struct_still : (by other : ℕ → ℕ) (t u : Tables) (structs : List Struct) (n : ℕ) (s : Struct) → by ≡ other → u.declared ≡ t.declared → u.complete ≡ t.complete → u.members ≡ t.members
    → u.scalars ≡ t.scalars → u.named ≡ t.named → StructFollows by t structs n s → StructFollows other u structs n s
struct_still by other t u structs n s same declared complete members scalars named is =
    subst (λ by. StructFollows by u structs n s) same (record {
      declared = ap (λ (f : ℕ → Bool). f (by n)) declared ∙ is.declared;
      complete = ap (λ (f : ℕ → Bool). f (by n)) complete ∙ is.complete;
      members = λ c. ap (λ (f : ℕ → List PlainMember). f (by n)) members ∙ is.members c;
      numbers = is.numbers;
      there = is.there;
      scalars = ap (λ (f : ℕ → ℕ). f (by n)) scalars ∙ is.scalars;
      none_before = is.none_before;
      named = ap (λ (f : ℕ → List ℕ). f (by n)) named ∙ is.named;
    })

begun_anew : (t : Tables) (scope : Scope) → Follows t scope → (numbers : Numbers) → Follows (unit_begun (without_functions t)) (unit_start scope.structs numbers).scope
begun_anew t scope f numbers = record {
  by = f.by;
  apart = f.apart;
  structs = λ m s e. struct_still f.by f.by t (unit_begun (without_functions t)) scope.structs m s refl refl refl refl refl refl (f.structs m s e);
  tags = λ name. refl;
  tagged = λ name n e. absurd cc;
  names = λ name. tt;
  names_there = λ name n e. absurd cc;
  names_numbered = λ name n e. absurd cc;
  locals = λ name. tt;
  locals_there = λ name l e. absurd cc;
  within = tt;
  completes = f.completes;
  uncounted = f.uncounted;
}

same_numbers : (t : Tables) (scope : Scope) (f : Follows t scope) (numbers : Numbers) → (begun_anew t scope f numbers).by ≡ f.by
unfolding begun_anew
same_numbers t scope f numbers = refl

-- the next unit begins
pub next_begins : (by : ℕ → ℕ) (s next : SeenUnit) (unit : UnitState) → next ≡ begun s → IsUnit by s unit → (numbers : Numbers) → IsUnit by next (unit_start unit.scope.structs numbers)
next_begins by s next unit is h numbers =
    let f = h.tables.follows in
    subst (λ (s : SeenUnit). IsUnit by s (unit_start unit.scope.structs numbers)) (sym is)
    (record { tables = record { follows = begun_anew s.tables unit.scope f numbers; numbers = same_numbers s.tables unit.scope f numbers ∙ h.tables.numbers }; defined = refl; outside = refl })

no_numbers_yet : Numbers
no_numbers_yet = linking.no_numbers 0

-- the numbers of the structs before the first unit
pub first_by : ℕ → ℕ
first_by = (nothing_begun no_numbers_yet).by

pub first_begins : (s : SeenUnit) → s ≡ unit_before_all → (numbers : Numbers) → IsUnit first_by s (unit_start [] numbers)
unfolding first_by
first_begins s is numbers =
    next_begins first_by unit_before_all s (unit_start [] no_numbers_yet) is
    (record { tables = record { follows = nothing_begun no_numbers_yet; numbers = refl }; defined = refl; outside = refl }) numbers

-- what is known where the next unit begins
pub begun_so :
    (on : ℕ → Bool) (old taken now next : code.Tables) (before after : CondList Definition) → taken ≡ record old { names = taken.names }
    → seen_tables on next ≡ unit_begun (seen_tables on now) → seen_tables on now ≡ without_functions (seen_tables on taken)
    → seen on (listed definition_form after) ≡ [] → seen_unit on (record { tables = next; defined = after }) ≡ begun (seen_unit on (record { tables = old; defined = before }))
begun_so on old taken now next before after rest begins emptied none =
    ap₂ (λ (t : Tables) (d : List PlainDefinition). record { tables = t; defined = d })
    (begins ∙ (ap unit_begun emptied ∙ ap (λ (t : code.Tables). unit_begun (without_functions (seen_tables on t))) rest)) none

-- ---- declarations of functions behind others

got_within : {A : Type 0} (xs ys : List A) (n : ℕ) → n < length xs → slice_get (xs ++ ys) n ≡ slice_get xs n
got_within [] ys n h = absurd (omega (arith, h))
got_within (x ∷ xs) ys zero h = refl
got_within (x ∷ xs) ys (suc n) h = got_within xs ys n (omega (arith, h))

got_behind : {A : Type 0} (xs ys : List A) (n : ℕ) → slice_get (xs ++ ys) (length xs + n) ≡ slice_get ys n
got_behind [] ys n = let e : 0 + n ≡ n = omega arith in ap (slice_get ys) e
got_behind (x ∷ xs) ys n = let e : suc (length xs) + n ≡ suc (length xs + n) = omega arith in ap (slice_get (x ∷ xs ++ ys)) e ∙ got_behind xs ys n

some_same : {A : Type 0} (x y : A) → Some x ≡ Some y → x ≡ y
some_same x y e = cc

module _ (on : ℕ → Bool) where
  abbrev pub signatures_at : List CondSignature → ℕ → Signature
  signatures_at list n = signature_of on (slice_get list n)

  module _ (signatures given all : List CondSignature) (are : all ≡ signatures ++ given) where
    longer : length all ≡ length signatures + length given
    longer = ap (λ (l : List CondSignature). length l) are ∙ length-append signatures given

    still_numbered : (o : Sort) → IsNumbered (length signatures) o → IsNumbered (length all) o
    still_numbered (object ty) h = tt
    still_numbered (declared_function number) h = omega (arith, h, longer)

    number_behind : (o : Sort) → IsNumbered (length given) o → IsNumbered (length all) (sort_behind (length signatures) o)
    number_behind (object ty) h = tt
    number_behind (declared_function number) h = omega (arith, h, longer)

    module _ (by : ℕ → ℕ) where
      sort_still : (s : scopes.Sort) (o : Sort) → IsNumbered (length signatures) o → SortFollows by (signatures_at signatures) s o → SortFollows by (signatures_at all) s o
      sort_still (scopes.variable ty) (object other) h i = i
      sort_still (scopes.variable ty) (declared_function number) h i = i
      sort_still (scopes.function f) (object other) h i = i
      sort_still (scopes.function f) (declared_function number) h i =
          ap (λ (l : List CondSignature). signature_of on (slice_get l number)) are ∙ ap (signature_of on) (got_within signatures given number h) ∙ i

      name_still : (n : Option scopes.FileName) (o : Option FileName) → ((x : FileName) → o ≡ Some x → IsNumbered (length signatures) x.sort) → NameFollows by (signatures_at signatures) n o
          → NameFollows by (signatures_at all) n o
      name_still None None h i = i
      name_still None (Some o) h i = i
      name_still (Some n) None h i = i
      name_still (Some n) (Some o) h i = (sort_still n.sort o.sort (h o refl) i.0, i.1)

      sort_follows_behind : (s : scopes.Sort) (o : Sort) → SortFollows by (signatures_at given) s o → SortFollows by (signatures_at all) s (sort_behind (length signatures) o)
      sort_follows_behind (scopes.variable ty) (object other) i = i
      sort_follows_behind (scopes.variable ty) (declared_function number) i = i
      sort_follows_behind (scopes.function f) (object other) i = i
      sort_follows_behind (scopes.function f) (declared_function number) i =
          ap (λ (l : List CondSignature). signature_of on (slice_get l (length signatures + number))) are ∙ ap (signature_of on) (got_behind signatures given number) ∙ i

      name_follows_behind : (n : Option scopes.FileName) (o : Option FileName) → NameFollows by (signatures_at given) n o
          → NameFollows by (signatures_at all) n (option_map (name_behind (length signatures)) o)
      name_follows_behind None None i = i
      name_follows_behind None (Some o) i = i
      name_follows_behind (Some n) None i = i
      name_follows_behind (Some n) (Some o) i = (sort_follows_behind n.sort o.sort i.0, i.1)

    name_numbered_behind : (o : Option FileName) → ((x : FileName) → o ≡ Some x → IsNumbered (length given) x.sort) → (n : FileName) → option_map (name_behind (length signatures)) o ≡ Some n
        → IsNumbered (length all) n.sort
    name_numbered_behind None h n e = absurd cc
    name_numbered_behind (Some o) h n e =
        subst (λ (x : FileName). IsNumbered (length all) x.sort) (some_same (name_behind (length signatures) o) n e) (number_behind o.sort (h o refl))

  -- ---- what units leave

  -- a unit has left this, whose functions are among these
  pub record IsKept (signatures : List CondSignature) (by : ℕ → ℕ) (structs : List Struct) (unit : linking.Unit) (left : TypedUnit) : Type 0 where
    pub names : (name : List ℕ) → NameFollows by (signatures_at signatures) (unit.names name) (name_seen on left.names name)
    pub numbered : (name : List ℕ) (n : FileName) → name_seen on left.names name ≡ Some n → IsNumbered (length signatures) n.sort
    pub there : (name : List ℕ) (n : scopes.FileName) → unit.names name ≡ Some n → SortIsThere structs n.sort
    pub defined : plain_definitions unit.defined ≡ seen on (listed definition_form left.defined)

  module _ (signatures given all : List CondSignature) (are : all ≡ signatures ++ given) (by other : ℕ → ℕ) (structs more : List Struct) (kept : NumbersKept structs by other) (has : Has structs more) where
    one_still : (unit : linking.Unit) (left : TypedUnit) → IsKept signatures by structs unit left → IsKept all other more unit left
    one_still unit left h = record {
      names = λ name.
          name_follows structs by other kept (signatures_at all) (unit.names name) (name_seen on left.names name) (h.there name)
          (name_still signatures given all are by (unit.names name) (name_seen on left.names name) (h.numbered name) (h.names name));
      numbered = λ name n e. still_numbered signatures given all are n.sort (h.numbered name n e);
      there = λ name n e. sort_still_there structs more has n.sort (h.there name n e);
      defined = h.defined;
    }

    pub all_still : (units : List linking.Unit) (lefts : List TypedUnit) → AllZip (IsKept signatures by structs) units lefts → AllZip (IsKept all other more) units lefts
    all_still [] [] h = tt
    all_still [] (left ∷ lefts) h = absurd h
    all_still (unit ∷ units) [] h = absurd h
    all_still (unit ∷ units) (left ∷ lefts) h = (one_still unit left h.0, all_still units lefts h.1)

  pub now_kept :
      (signatures all : List CondSignature) (tables : code.Tables) (by : ℕ → ℕ) (scope : Scope) (unit : linking.Unit) (left : TypedUnit)
      → all ≡ signatures ++ tables.signatures.items → FollowsBy by (seen_tables on tables) scope
      → ((name : List ℕ) → name_seen on left.names name ≡ option_map (name_behind (length signatures)) ((seen_tables on tables).names name))
      → unit.names ≡ scope.file_names → plain_definitions unit.defined ≡ seen on (listed definition_form left.defined) → IsKept all by scope.structs unit left
  now_kept signatures all tables by scope unit left are h names same defined =
      let t = seen_tables on tables in
      let f = h.follows in
      subst (λ by. IsKept all by scope.structs unit left) h.numbers
      (record {
        names = λ name.
            subst (λ n. NameFollows f.by (signatures_at all) n (name_seen on left.names name)) (ap (λ (table : List ℕ → Option scopes.FileName). table name) (sym same))
            (subst (NameFollows f.by (signatures_at all) (scope.file_names name)) (sym (names name))
            (name_follows_behind signatures tables.signatures.items all are f.by (scope.file_names name) (t.names name) (f.names name)));
        numbered = λ name n e. name_numbered_behind signatures tables.signatures.items all are (t.names name) (f.names_numbered name) n (sym (names name) ∙ e);
        there = λ name n e. f.names_there name n (ap (λ (table : List ℕ → Option scopes.FileName). table name) (sym same) ∙ e);
        defined = defined;
      })

  pub are_left : (tables : code.Tables) (by : ℕ → ℕ) (structs : List Struct) (units : List linking.Unit) (lefts : List TypedUnit)
      → AllZip (IsKept tables.signatures.items by structs) units lefts → AllZip (IsLeft on tables by structs) units lefts
  are_left tables by structs [] [] h = tt
  are_left tables by structs [] (left ∷ lefts) h = absurd h
  are_left tables by structs (unit ∷ units) [] h = absurd h
  are_left tables by structs (unit ∷ units) (left ∷ lefts) h =
      (record { names = h.0.names; there = h.0.there; defined = h.0.defined }, are_left tables by structs units lefts h.1)

  -- each struct is one of the tables', whatever declarations of functions these have
  pub structs_follow : (tables all : code.Tables) (by : ℕ → ℕ) (scope : Scope) → all.structs ≡ tables.structs → FollowsBy by (seen_tables on tables) scope
      → (n : ℕ) (s : Struct) → slice_get scope.structs n ≡ Some s → StructFollows by (seen_tables on all) scope.structs n s
  structs_follow tables all by scope same h n s e =
      struct_still h.follows.by by (seen_tables on tables) (seen_tables on all) scope.structs n s h.numbers
      (ap (λ structs. (seen_tables on (record tables { structs = structs })).declared) same)
      (ap (λ structs. (seen_tables on (record tables { structs = structs })).complete) same)
      (ap (λ structs. (seen_tables on (record tables { structs = structs })).members) same)
      (ap (λ structs. (seen_tables on (record tables { structs = structs })).scalars) same)
      (ap (λ structs. (seen_tables on (record tables { structs = structs })).named) same)
      (h.follows.structs n s e)

-- ---- one more at the end

pub zip_last : {A B : Type 0} (R : A → B → Type 0) (xs : List A) (ys : List B) (x : A) (y : B) → AllZip R xs ys → R x y → AllZip R (xs ++ x ∷ []) (ys ++ y ∷ [])
zip_last R [] [] x y h i = (i, tt)
zip_last R [] (b ∷ ys) x y h i = absurd h
zip_last R (a ∷ xs) [] x y h i = absurd h
zip_last R (a ∷ xs) (b ∷ ys) x y h i = (h.0, zip_last R xs ys x y h.1 i)

pub filter_last : {A : Type 0} (p : A → Bool) (xs : List A) (x : A) → filter p (xs ++ x ∷ []) ≡ (if p x then filter p xs ++ x ∷ [] else filter p xs)
filter_last p [] x = refl
filter_last {A} p (y ∷ xs) x = by (p y) (p x) (filter_last p xs x)
  where
    by : (b c : Bool) → filter p (xs ++ x ∷ []) ≡ (if c then filter p xs ++ x ∷ [] else filter p xs)
        → (if b then y ∷ filter p (xs ++ x ∷ []) else filter p (xs ++ x ∷ [])) ≡ (if c then (if b then y ∷ filter p xs else filter p xs) ++ x ∷ [] else (if b then y ∷ filter p xs else filter p xs))
    by true true h = ap (λ (l : List A). y ∷ l) h
    by true false h = ap (λ (l : List A). y ∷ l) h
    by false c h = h
