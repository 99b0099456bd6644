-- The core program of units, from keys and bodies.
use Rattle.std.proofs.Common.{◌≡◌, ℕ, zero, suc, ◌+◌, Bool, ◌&&◌, List, [], ◌∷◌, ◌++◌, map, length, ⊎_elim, refl, sym, ap, subst, ◌∙◌, zero-add}
use Rattle.std.specs.Prelude.{Option, Some, None, slice_get, filter, if◌then◌else◌}
use Rattle.std.proofs.lemmas.List.{length-map}
use Rattle.c_types.specs.Types.{PlainType}
use Rattle.core_meaning.specs.Program.{PlainFunction, PlainGlobal, PlainConstantPart, PlainProgram}
use Rattle.core_meaning.specs.UnitNames.{Body}
use Rattle.core_meaning.specs.Linking.{Unit, Linked, linked_in, all_linked, each_once, is_wanted, is_of_sort, listed, same_linked, defines_linked, unit_of, function_in, global_in, function_of_body, parts_of_body}
use Rattle.plain_link.specs.declared.left.Left.{Left}
use Rattle.plain_link.specs.PlainUnits.{plain_unit}
use Rattle.plain_link.specs.GlobalsLaws.{defines_same, available_same}
use Rattle.plain_numbers.specs.declared.places.Linked.{Linked as RustLinked}
use Rattle.plain_numbers.specs.PlainLinked.{plain_linked}
use Rattle.plain_program.specs.Owners.{owner_from, key_in, unit_in, type_in, type_at}
use Rattle.plain_program.specs.Bodies.{body_in, body_for}
use Rattle.plain_program.specs.Functions.{function_under, function_for, AreApart}
use Rattle.plain_program.specs.Globals.{parts_under, global_for}
use Rattle.plain_program.proofs.OwnerLaws.{Owned, Unowned, owned_or_not, Distinct, distinct_once, keys_apart}

map_same : {A B : Type 0} (f g : A → B) → ((x : A) → f x ≡ g x) → (xs : List A) → map f xs ≡ map g xs
map_same f g same [] = refl
map_same f g same (x ∷ xs) = ap (λ y. y ∷ map f xs) (same x) ∙ ap (λ ys. g x ∷ ys) (map_same f g same xs)

map_twice : {A B C : Type 0} (f : B → C) (g : A → B) (xs : List A) → map f (map g xs) ≡ map (λ x. f (g x)) xs
map_twice f g [] = refl
map_twice f g (x ∷ xs) = ap (λ ys. f (g x) ∷ ys) (map_twice f g xs)

filter_same : {A : Type 0} (p q : A → Bool) → ((x : A) → p x ≡ q x) → (xs : List A) → filter p xs ≡ filter q xs
filter_same p q same [] = refl
filter_same p q same (x ∷ xs) =
    ap (λ t. if t then x ∷ filter p xs else filter p xs) (same x) ∙ ap (λ r. if q x then x ∷ r else r) (filter_same p q same xs)

-- ---- numbers of globals play no part

wanted_same : (g h : ℕ) (units : List Left) (functions : Bool) (left : Left) (name : List ℕ) → is_wanted (map (plain_unit g) units) functions (plain_unit g left) name ≡ is_wanted (map (plain_unit h) units) functions (plain_unit h left) name
wanted_same g h units functions left name =
    ap (λ b. is_of_sort functions ((plain_unit h left).names name) && b) (available_same g h units left name)

all_same : (g h : ℕ) (units : List Left) (functions : Bool) (i : ℕ) (ls : List Left) → all_linked (is_wanted (map (plain_unit g) units) functions) i (map (plain_unit g) ls) ≡ all_linked (is_wanted (map (plain_unit h) units) functions) i (map (plain_unit h) ls)
all_same g h units functions i [] = refl
all_same g h units functions i (l ∷ ls) =
    let w = is_wanted (map (plain_unit g) units) functions in
    let v = is_wanted (map (plain_unit h) units) functions in
    ap (λ names. map (linked_in i (plain_unit h l)) names ++ all_linked w (i + 1) (map (plain_unit g) ls))
    (filter_same (w (plain_unit g l)) (v (plain_unit h l)) (λ name. wanted_same g h units functions l name) (plain_unit h l).order)
    ∙ ap (λ r. map (linked_in i (plain_unit h l)) (filter (v (plain_unit h l)) (plain_unit h l).order) ++ r) (all_same g h units functions (i + 1) ls)

pub listed_same : (g h : ℕ) (units : List Left) (functions : Bool) → listed (map (plain_unit g) units) functions ≡ listed (map (plain_unit h) units) functions
listed_same g h units functions = ap (each_once []) (all_same g h units functions 0 units)

owner_same : (g h : ℕ) (e : Linked) (i : ℕ) (ls : List Left) → owner_from e i (map (plain_unit g) ls) ≡ owner_from e i (map (plain_unit h) ls)
owner_same g h e i [] = refl
owner_same g h e i (l ∷ ls) =
    ap (λ b. if same_linked e (linked_in i (plain_unit h l) e.name) && b then Some i else owner_from e (i + 1) (map (plain_unit g) ls)) (defines_same g h l e.name)
    ∙ ap (λ o. if defines_linked e i (plain_unit h l) then Some i else o) (owner_same g h e (i + 1) ls)

type_at_same : (g h : ℕ) (ls : List Left) (i : ℕ) (name : List ℕ) → type_in (slice_get (map (plain_unit g) ls) i) name ≡ type_in (slice_get (map (plain_unit h) ls) i) name
type_at_same g h [] i name = refl
type_at_same g h (l ∷ ls) zero name = refl
type_at_same g h (l ∷ ls) (suc i) name = type_at_same g h ls i name

type_same : (g h : ℕ) (ls : List Left) (n : Option ℕ) (name : List ℕ) → type_in (unit_in (map (plain_unit g) ls) n) name ≡ type_in (unit_in (map (plain_unit h) ls) n) name
type_same g h ls None name = refl
type_same g h ls (Some i) name = type_at_same g h ls i name

-- ---- functions

function_is : (e : Linked) (us : List Unit) → function_under (owner_from e 0 us) e.name (body_in (unit_in us (owner_from e 0 us)) e.name) ≡ function_in e (unit_of e 0 us)
function_is e us =
    let under : Option ℕ → PlainFunction = λ o. function_under o e.name (body_in (unit_in us o) e.name) in
    ⊎_elim
    (λ (h : Owned e 0 us).
    ap under (h.number ∙ ap (λ n. Some n) (zero-add h.at))
    ∙ ap (λ (u : Option Unit). function_of_body (body_in u e.name)) h.there
    ∙ ap (function_in e) (sym h.is))
    (λ (h : Unowned e 0 us). ap under h.number ∙ ap (function_in e) (sym h.is))
    (owned_or_not e 0 us)

pub functions_are : (g : ℕ) (units : List Left) (keys : List RustLinked) (es : List Linked) (held : RustLinked → Option Body) → map plain_linked keys ≡ map (key_in (map (plain_unit 0) units)) es → ((k : RustLinked) → held k ≡ body_for (map (plain_unit g) units) k) → map (λ key. function_for key (held key)) keys ≡ map (λ e. function_in e (unit_of e 0 (map (plain_unit g) units))) es
functions_are g units keys es held are is =
    let us = map (plain_unit g) units in
    let first = map (plain_unit 0) units in
    let F : Linked → PlainFunction = λ x. function_under x.unit x.name (body_in (unit_in us x.unit) x.name) in
    map_same (λ (key : RustLinked). function_for key (held key)) (λ (key : RustLinked). F (plain_linked key)) (λ key. ap (function_for key) (is key)) keys
    ∙ sym (map_twice F plain_linked keys)
    ∙ ap (map F) are
    ∙ map_twice F (key_in first) es
    ∙ map_same (λ (e : Linked). F (key_in first e)) (λ (e : Linked). function_in e (unit_of e 0 us))
    (λ e. ap (λ (o : Option ℕ). function_under o e.name (body_in (unit_in us o) e.name)) (owner_same 0 g e 0 units) ∙ function_is e us) es

-- ---- objects

global_is : (e : Linked) (us : List Unit) → (let G : Option ℕ → PlainGlobal = λ o. record { ty = type_in (unit_in us o) e.name; parts = parts_under o (body_in (unit_in us o) e.name) } in G (owner_from e 0 us) ≡ global_in e (unit_of e 0 us))
global_is e us =
    let under : Option ℕ → PlainGlobal = λ o. record { ty = type_in (unit_in us o) e.name; parts = parts_under o (body_in (unit_in us o) e.name) } in
    let at : Option Unit → PlainGlobal = λ u. record { ty = type_in u e.name; parts = parts_of_body (body_in u e.name) } in
    ⊎_elim
    (λ (h : Owned e 0 us).
    ap under (h.number ∙ ap (λ n. Some n) (zero-add h.at))
    ∙ ap at h.there
    ∙ ap (global_in e) (sym h.is))
    (λ (h : Unowned e 0 us). ap under h.number ∙ ap (global_in e) (sym h.is))
    (owned_or_not e 0 us)

parts_same : (n : Option ℕ) (a b : Option Body) → parts_of_body a ≡ parts_of_body b → parts_under n a ≡ parts_under n b
parts_same None a b h = refl
parts_same (Some i) a b h = h

pub globals_are : (g : ℕ) (units : List Left) (keys : List RustLinked) (es : List Linked) (held : RustLinked → Option Body) → map plain_linked keys ≡ map (key_in (map (plain_unit 0) units)) es → ((k : RustLinked) → parts_of_body (held k) ≡ parts_of_body (body_for (map (plain_unit g) units) k)) → map (λ key. global_for (type_at (map (plain_unit 0) units) (plain_linked key)) key (held key)) keys ≡ map (λ e. global_in e (unit_of e 0 (map (plain_unit g) units))) es
globals_are g units keys es held are is =
    let us = map (plain_unit g) units in
    let first = map (plain_unit 0) units in
    let G : Linked → PlainGlobal = λ x. record { ty = type_at first x; parts = parts_under x.unit (body_in (unit_in us x.unit) x.name) } in
    let own : RustLinked → PlainGlobal = λ key. global_for (type_at first (plain_linked key)) key (held key) in
    map_same own (λ (key : RustLinked). G (plain_linked key))
    (λ key.
    let with_parts : List PlainConstantPart → PlainGlobal = λ parts. record { ty = type_at first (plain_linked key); parts = parts } in
    ap with_parts (parts_same key.unit (held key) (body_for us key) (is key))) keys
    ∙ sym (map_twice G plain_linked keys)
    ∙ ap (map G) are
    ∙ map_twice G (key_in first) es
    ∙ map_same (λ (e : Linked). G (key_in first e)) (λ (e : Linked). global_in e (unit_of e 0 us))
    (λ e.
    let o = owner_from e 0 first in
    let with_type : PlainType → PlainGlobal = λ ty. record { ty = ty; parts = parts_under o (body_in (unit_in us o) e.name) } in
    let under : Option ℕ → PlainGlobal = λ n. record { ty = type_in (unit_in us n) e.name; parts = parts_under n (body_in (unit_in us n) e.name) } in
    ap with_type (type_same 0 g units o e.name) ∙ ap under (owner_same 0 g e 0 units) ∙ global_is e us) es

-- ---- keys

pub listed_apart : (units : List Left) (functions : Bool) (keys : List RustLinked) (es : List Linked) → es ≡ listed (map (plain_unit 0) units) functions → map plain_linked keys ≡ map (key_in (map (plain_unit 0) units)) es → AreApart keys
listed_apart units functions keys es is are =
    let us = map (plain_unit 0) units in
    keys_apart us keys es are (subst Distinct (sym is) (distinct_once [] (all_linked (is_wanted us functions) 0 us) tt))

pub as_long : {A B C : Type 0} (f : A → C) (g : B → C) (xs : List A) (ys : List B) → map f xs ≡ map g ys → length xs ≡ length ys
as_long f g xs ys e = sym (length-map xs f) ∙ ap length e ∙ length-map ys g

pub program_same : (s t : List (List PlainType)) (f f2 : List PlainFunction) (g g2 : List PlainGlobal) (l l2 : List (List ℕ)) (m m2 : ℕ) → s ≡ t → f ≡ f2 → g ≡ g2 → l ≡ l2 → m ≡ m2 → (let mk : List (List PlainType) → List PlainFunction → List PlainGlobal → List (List ℕ) → ℕ → PlainProgram = λ s f g l m. record { structs = s; functions = f; globals = g; literals = l; main = m } in mk s f g l m ≡ mk t f2 g2 l2 m2)
program_same s t f f2 g g2 l l2 m m2 es ef eg el em =
    let mk : List (List PlainType) → List PlainFunction → List PlainGlobal → List (List ℕ) → ℕ → PlainProgram = λ s f g l m. record { structs = s; functions = f; globals = g; literals = l; main = m } in
    ap (λ x. mk x f g l m) es ∙ ap (λ x. mk t x g l m) ef ∙ ap (λ x. mk t f2 x l m) eg ∙ ap (λ x. mk t f2 g2 x m) el ∙ ap (λ x. mk t f2 g2 l2 x) em
