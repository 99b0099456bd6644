-- The unit of accepted items: what its names are, what it lists for linking, and what it defines.
use Rattle.std.proofs.Common.{◌≡◌, ℕ, zero, suc, ◌+◌, ◌==◌, nat_le, Bool, true, false, not, ◌&&◌, ◌||◌, List, [], ◌∷◌, ◌++◌, map, codes, refl, sym, ◌∙◌, ap, cond, Option, Some, None, option_map, IsTrue, arith, append_assoc, append-nil, add-one}
use Rattle.std.proofs.lemmas.Bool.{le-leb}
use Rattle.std.proofs.lemmas.List.{map-append}
use Rattle.std.proofs.Math.Dec.{eqb-suc-zero}
use Rattle.std.specs.Prelude.{filter}
use Rattle.std.specs.List.{AllByRecursion, list_any}
use Rattle.std.specs.Str.{bytes_eq}
use Rattle.c_types.specs.Types.{PlainType, int}
use Rattle.core_meaning.specs.Entities.{Table, FileName, Sort, Numbers, variable, function}
use Rattle.core_meaning.specs.UnitNames.{Body, Defined}
use Rattle.core_meaning.specs.Linking.{Unit, is_tentative, is_of_sort, defines, count_whole, is_internal, is_available, is_wanted, Linked, same_linked, linked_in, each_once, place_where, whole_body}
use Rattle.quick_form.specs.Program.{bodies}
use Rattle.quick_core.specs.Present.{Item, tentative, valued, main_of, declarations}
use Rattle.quick_core.specs.CoreProgram.{number_in}
use Rattle.quick_core.proofs.Cells.{is_in}
use Rattle.quick_core.proofs.Starts.{IsName}
use Rattle.quick_trees.proofs.Judging.{as_object, as_function}
use Rattle.quick_trees.proofs.JudgedUnit.{unit_of, item_name, item_as, item_body, definition, with_item, with_items, unit_after, first_table}
use Rattle.quick_trees.proofs.Readiness.{AreApart, names_of, objects_of, apart_symmetric, same_bytes}

pub unit_is : (numbers : Numbers) (table : Table FileName) (order : List (List ℕ)) (before : List Defined) (items : List Item)
    → unit_after numbers table order before items ≡ unit_of numbers (with_items table items) (order ++ names_of items) (before ++ map (definition numbers) items)
unit_is numbers table order before [] =
    ap (λ o. unit_of numbers table o before) (sym (append-nil order)) ∙ ap (λ d. unit_of numbers table (order ++ []) d) (sym (append-nil before))
unit_is numbers table order before (item ∷ rest) =
    unit_is numbers (with_item table item) (order ++ item_name item ∷ []) (before ++ definition numbers item ∷ []) rest
    ∙ (ap (λ o. unit_of numbers (with_items table (item ∷ rest)) o ((before ++ definition numbers item ∷ []) ++ map (definition numbers) rest)) (append_assoc order (item_name item ∷ []) (names_of rest))
    ∙ ap (λ d. unit_of numbers (with_items table (item ∷ rest)) (order ++ names_of (item ∷ rest)) d) (append_assoc before (definition numbers item ∷ []) (map (definition numbers) rest)))

-- ---- facts for each item

each : {P Q : Item → Type 0} (items : List Item) → ((i : Item) → P i → Q i) → AllByRecursion P items → AllByRecursion Q items
each [] f h = tt
each (i ∷ rest) f h = (f i h.0, each rest f h.1)

-- of facts for names and for items
both_each : (P : List ℕ → Type 0) (Q R : Item → Type 0) (items : List Item) → ((i : Item) → P (item_name i) → Q i → R i) → AllByRecursion P (names_of items) → AllByRecursion Q items → AllByRecursion R items
both_each P Q R [] f h k = tt
both_each P Q R (i ∷ rest) f h k = (f i h.0 k.0, both_each P Q R rest f h.1 k.1)

pub or_first : (a b : Bool) → a ≡ true → (a || b) ≡ true
or_first true b h = refl
or_first false b h = absurd cc

pub or_second : (a b : Bool) → b ≡ true → (a || b) ≡ true
or_second true b h = refl
or_second false b h = h

neither : (a b : Bool) → (a || b) ≡ false → (a ≡ false) × (b ≡ false)
neither true b h = absurd cc
neither false b h = (refl, h)

-- names in the table
pub table_kept : (table : Table FileName) (items : List Item) (x : List ℕ) → AllByRecursion (λ y. bytes_eq x y ≡ false) (names_of items) → with_items table items x ≡ table x
table_kept table [] x h = refl
table_kept table (i ∷ rest) x h = table_kept (with_item table i) rest x h.1 ∙ ap (λ b. cond b (Some (item_as i)) (table x)) h.0

pub tabled : (table : Table FileName) (items : List Item) → AreApart (names_of items) → AllByRecursion (λ i. with_items table items (item_name i) ≡ Some (item_as i)) items
tabled table [] h = tt
tabled table (i ∷ rest) h =
    (table_kept (with_item table i) rest (item_name i) h.0 ∙ ap (λ b. cond b (Some (item_as i)) (table (item_name i))) (same_bytes (item_name i)), tabled (with_item table i) rest h.1)

pub defined_each : (numbers : Numbers) (items : List Item) → AllByRecursion (λ i. list_any (λ d. bytes_eq d.name (item_name i)) (map (definition numbers) items) ≡ true) items
defined_each numbers [] = tt
defined_each numbers (i ∷ rest) = (
  or_first (bytes_eq (item_name i) (item_name i)) _ (same_bytes (item_name i)),
  each rest (λ j h. or_second (bytes_eq (item_name i) (item_name j)) (list_any (λ d. bytes_eq d.name (item_name j)) (map (definition numbers) rest)) h) (defined_each numbers rest),
)

pub defined_none : (numbers : Numbers) (items : List Item) (x : List ℕ) → AllByRecursion (λ y. bytes_eq y x ≡ false) (names_of items) → list_any (λ d. bytes_eq d.name x) (map (definition numbers) items) ≡ false
defined_none numbers [] x h = refl
defined_none numbers (i ∷ rest) x h = rw (h.0, defined_none numbers rest x h.1) refl

-- the whole definition, if the item is one
abbrev pub whole : Body → Option Body
whole b = cond (not (is_tentative b)) (Some b) None

whole_none : (numbers : Numbers) (items : List Item) (x : List ℕ) → AllByRecursion (λ y. bytes_eq x y ≡ false) (names_of items) → whole_body (map (definition numbers) items) x ≡ None
whole_none numbers [] x h = refl
whole_none numbers (i ∷ rest) x h = rw (apart_symmetric x (item_name i) h.0) (whole_none numbers rest x h.1)

whole_at : (body : Body) (t : Bool) (others : Option Body) → t ≡ true → others ≡ None → cond (t && not (is_tentative body)) (Some body) others ≡ whole body
whole_at body true others e h = ap (λ o. cond (not (is_tentative body)) (Some body) o) h
whole_at body false others e h = absurd cc

pub whole_each : (numbers : Numbers) (items : List Item) → AreApart (names_of items) → AllByRecursion (λ i. whole_body (map (definition numbers) items) (item_name i) ≡ whole (item_body numbers i)) items
whole_each numbers [] h = tt
whole_each numbers (i ∷ rest) h = (
  whole_at (item_body numbers i) (bytes_eq (item_name i) (item_name i)) (whole_body (map (definition numbers) rest) (item_name i)) (same_bytes (item_name i)) (whole_none numbers rest (item_name i) h.0),
  both_each (λ y. bytes_eq (item_name i) y ≡ false) (λ j. whole_body (map (definition numbers) rest) (item_name j) ≡ whole (item_body numbers j)) (λ j. whole_body (map (definition numbers) (i ∷ rest)) (item_name j) ≡ whole (item_body numbers j)) rest
      (λ j e k. ap (λ t. cond (t && not (is_tentative (item_body numbers i))) (Some (item_body numbers i)) (whole_body (map (definition numbers) rest) (item_name j))) e ∙ k) h.0 (whole_each numbers rest h.1),
)

pub both_true : (a b : Bool) → a ≡ true → b ≡ true → (a && b) ≡ true
both_true true b h k = k
both_true false b h k = absurd cc

first_false : (a b : Bool) → a ≡ false → (a && b) ≡ false
first_false true b h = absurd cc
first_false false b h = refl

-- ---- the unit

abbrev pub linked_unit : Numbers → (List ℕ → Bool) → List Item → Unit
linked_unit numbers uses items = record { names = with_items first_table items; order = codes "putchar" ∷ names_of items; defined = map (definition numbers) items; uses = uses }

abbrev pub external : Sort → FileName
external sort = record { sort = sort; internal = false }

counted : (n : ℕ) → nat_le 1 (cond ((n == 0) && true) 1 n + 0) ≡ true
counted zero = refl
counted (suc n) = rw (eqb-suc-zero n) (le-leb 1 (suc n + 0) (omega arith))

pub internal_is : (unit : Unit) (x : List ℕ) (sort : Sort) → unit.names x ≡ Some (external sort) → is_internal unit x ≡ false
internal_is unit x sort h = ap (λ o. elim o as (λ y. Bool) [ None ↦ false | Some n ↦ n.internal ]) h

pub available : (unit : Unit) (x : List ℕ) (sort : Sort) → unit.names x ≡ Some (external sort) → defines unit x ≡ true → is_available (unit ∷ []) unit x ≡ true
available unit x sort h k = rw (internal_is unit x sort h, k) (or_first _ _ (counted (count_whole unit.defined x)))

abbrev pub link_to : List ℕ → Linked
link_to x = record { name = x; unit = None }

-- an item in the unit
pub record IsPut (unit : Unit) (i : Item) : Type 0 where
  pub named : unit.names (item_name i) ≡ Some (item_as i)
  pub defined : defines unit (item_name i) ≡ true

wanted_object : (unit : Unit) (x : List ℕ) → unit.names x ≡ Some as_object → defines unit x ≡ true → is_wanted (unit ∷ []) false unit x ≡ true
wanted_object unit x h k = both_true _ _ (ap (is_of_sort false) h) (available unit x (variable int) h k)

pub unwanted : (unit : Unit) (functions : Bool) (x : List ℕ) (n : FileName) → unit.names x ≡ Some n → is_of_sort functions (Some n) ≡ false → is_wanted (unit ∷ []) functions unit x ≡ false
unwanted unit functions x n h k = first_false _ _ (ap (is_of_sort functions) h ∙ k)

pub linked_is : (unit : Unit) (x : List ℕ) (sort : Sort) → unit.names x ≡ Some (external sort) → linked_in 0 unit x ≡ link_to x
linked_is unit x sort h = rw (internal_is unit x sort h) refl

pub kept : (test : List ℕ → Bool) (f g : List ℕ → Linked) (x : List ℕ) (xs ys : List (List ℕ)) → test x ≡ true → f x ≡ g x → map f (filter test xs) ≡ map g ys → map f (filter test (x ∷ xs)) ≡ map g (x ∷ ys)
kept test f g x xs ys h e k = rw h (ap (λ l. l ∷ map f (filter test xs)) e ∙ ap (λ ls. g x ∷ ls) k)

pub dropped : (test : List ℕ → Bool) (f g : List ℕ → Linked) (x : List ℕ) (xs ys : List (List ℕ)) → test x ≡ false → map f (filter test xs) ≡ map g ys → map f (filter test (x ∷ xs)) ≡ map g ys
dropped test f g x xs ys h k = rw h k

module _ (unit : Unit) where
  abbrev pub objects_only : List ℕ → Bool
  objects_only = is_wanted (unit ∷ []) false unit

  abbrev pub functions_only : List ℕ → Bool
  functions_only = is_wanted (unit ∷ []) true unit

  pub wanted_function : (x : List ℕ) (ps : List PlainType) → unit.names x ≡ Some (as_function ps) → is_available (unit ∷ []) unit x ≡ true → functions_only x ≡ true
  wanted_function x ps h k = both_true _ _ (ap (is_of_sort true) h) k

  pub objects_listed : (items : List Item) → AllByRecursion (IsPut unit) items → map (linked_in 0 unit) (filter objects_only (names_of items)) ≡ map link_to (objects_of items)
  objects_listed [] h = refl
  objects_listed (tentative x ∷ rest) h =
      kept objects_only (linked_in 0 unit) link_to x (names_of rest) (objects_of rest) (wanted_object unit x h.0.named h.0.defined) (linked_is unit x (variable int) h.0.named) (objects_listed rest h.1)
  objects_listed (valued x d ∷ rest) h =
      kept objects_only (linked_in 0 unit) link_to x (names_of rest) (objects_of rest) (wanted_object unit x h.0.named h.0.defined) (linked_is unit x (variable int) h.0.named) (objects_listed rest h.1)
  objects_listed (main_of c ∷ rest) h =
      dropped objects_only (linked_in 0 unit) link_to (codes "main") (names_of rest) (objects_of rest) (unwanted unit false (codes "main") (as_function []) h.0.named refl) (objects_listed rest h.1)

  abbrev pub mains_of : List Item → List (List ℕ)
  mains_of items = map (λ c. codes "main") (bodies (declarations items))

  pub functions_listed : (items : List Item) → AllByRecursion (IsPut unit) items → map (linked_in 0 unit) (filter functions_only (names_of items)) ≡ map link_to (mains_of items)
  functions_listed [] h = refl
  functions_listed (tentative x ∷ rest) h =
      dropped functions_only (linked_in 0 unit) link_to x (names_of rest) (mains_of rest) (unwanted unit true x as_object h.0.named refl) (functions_listed rest h.1)
  functions_listed (valued x d ∷ rest) h =
      dropped functions_only (linked_in 0 unit) link_to x (names_of rest) (mains_of rest) (unwanted unit true x as_object h.0.named refl) (functions_listed rest h.1)
  functions_listed (main_of c ∷ rest) h =
      kept functions_only (linked_in 0 unit) link_to (codes "main") (names_of rest) (mains_of rest)
      (wanted_function (codes "main") [] h.0.named (available unit (codes "main") (function (record { result = int; parameters = [] })) h.0.named h.0.defined))
      (linked_is unit (codes "main") (function (record { result = int; parameters = [] })) h.0.named) (functions_listed rest h.1)

-- each once

abbrev pub any_link : List ℕ → List (List ℕ) → Bool
any_link x names = list_any (same_linked (link_to x)) (map link_to names)

any_link_more : (x y : List ℕ) (names : List (List ℕ)) → any_link x names ≡ false → bytes_eq x y ≡ false → any_link x (names ++ y ∷ []) ≡ false
any_link_more x y [] h k = rw k refl
any_link_more x y (z ∷ names) h k =
    let parts = neither (same_linked (link_to x) (link_to z)) (any_link x names) h in
    rw (parts.0, any_link_more x y names parts.1 k) refl

all_links_more : (y : List ℕ) (names rest : List (List ℕ)) → AllByRecursion (λ x. any_link x names ≡ false) rest → AllByRecursion (λ x. bytes_eq y x ≡ false) rest → AllByRecursion (λ x. any_link x (names ++ y ∷ []) ≡ false) rest
all_links_more y names [] h k = tt
all_links_more y names (x ∷ rest) h k = (any_link_more x y names h.0 (apart_symmetric y x k.0), all_links_more y names rest h.1 k.1)

pub once : (done rest : List (List ℕ)) → AllByRecursion (λ x. any_link x done ≡ false) rest → AreApart rest → each_once (map link_to done) (map link_to rest) ≡ map link_to (done ++ rest)
once done [] h k = ap (map link_to) (sym (append-nil done))
once done (x ∷ rest) h k =
    ap (λ t. each_once (cond t (map link_to done) (map link_to done ++ link_to x ∷ [])) (map link_to rest)) h.0
    ∙ (ap (λ ls. each_once ls (map link_to rest)) (sym (map-append link_to done (x ∷ [])))
    ∙ (once (done ++ x ∷ []) rest (all_links_more x done rest h.1 k.0) k.1 ∙ ap (map link_to) (append_assoc done (x ∷ []) rest)))

pub none_done : (rest : List (List ℕ)) → AllByRecursion (λ x. any_link x [] ≡ false) rest
none_done [] = tt
none_done (x ∷ rest) = (refl, none_done rest)

-- the place of a name among links
place_by : (t : Bool) (found : Option ℕ) (k : ℕ) (later : Bool) → (IsTrue later → found ≡ Some k) → IsTrue (cond t true later) → cond (t && true) (Some 0) (option_map (λ n. n + 1) found) ≡ Some (cond t 0 (suc k))
place_by true found k later h i = refl
place_by false found k later h i = ap (option_map (λ n. n + 1)) (h i) ∙ ap Some (add-one k)

pub place_is : (names : List (List ℕ)) (x : List ℕ) → IsName names x → place_where (same_linked (link_to x)) (map link_to names) ≡ Some (number_in names x)
place_is [] x h = absurd cc
place_is (y ∷ ys) x h = place_by (bytes_eq x y) (place_where (same_linked (link_to x)) (map link_to ys)) (number_in ys x) (is_in ys x) (place_is ys x) h
