-- Tables and arrays of a document, entry by entry.
use Rattle.std.proofs.Common.{◌≡◌, ℕ, zero, suc, ◌+◌, ◌<◌, Bool, true, false, not, ◌||◌, length, take, get_or, List, [], ◌∷◌, ◌++◌, map, Option, Some, None, String, Global, Ordering, Less, Equal, Greater, string_bytes, nat_cmp, refl, sym, ap, subst, ◌∙◌, inl, inr, arith}
use Rattle.std.specs.List.{list_any, find, AllByRecursion, Contains}
use Rattle.std.specs.List.Sorted.{IsStrictlySortedBy}
use Rattle.std.specs.Map.{keys_of as names_of}
use Rattle.std.specs.Ordering.{ordering_reverse}
use Rattle.std.specs.Cmp.Lexicographic.{slice_cmp}
use Rattle.std.specs.String.{string_cmp}
use Rattle.std.proofs.lemmas.Bool.{cases_Bool}
use Rattle.std.proofs.lemmas.Cmp.{nat_list_cmp_total, tied_itself}
use Rattle.std.proofs.lemmas.List.{take_more}
use Rattle.std.proofs.lemmas.List.Elements.{All-from_recursion}
use Rattle.toml.specs.Data.{Data, string, integer, float, boolean, datetime, array, table, item, push_item, as_str}
use Rattle.toml.specs.View.{view, items_view, members_view}
use Rattle.toml.specs.declared.value.Value.{Value}
use Rattle.toml.proofs.Views.{Entry}
use Rattle.project_file.specs.Documents.{keys_of, is_listed, AllListed, IsFirstUnlisted, strings}

pub list_any-map : {X Y : Type 0} (p : Y → Bool) (f : X → Y) (xs : List X) → list_any (λ x. p (f x)) xs ≡ list_any p (map f xs)
list_any-map p f [] = refl
list_any-map p f (x ∷ xs) = ap (λ t. p (f x) || t) (list_any-map p f xs)

-- the value is a string, or none
pub string_from : (value : Data) (text : List ℕ) → Some text ≡ as_str value → value ≡ string text
string_from (string s) text e = cc
string_from (integer z) text e = cc
string_from (float x) text e = cc
string_from (boolean b) text e = cc
string_from (datetime d) text e = cc
string_from (array ds) text e = cc
string_from (table ms) text e = cc

pub no_string : (value : Data) (text : List ℕ) → None ≡ as_str value → value ≡ string text → ⊥
no_string value text none is = let e : ◌≡◌ {A = Option (List ℕ)} None (Some text) = none ∙ ap as_str is in cc

-- each value of an array of strings is a string
pub each_string : (values : List Value) (texts : List (List ℕ)) (k : ℕ) (d : Value) → items_view values ≡ strings texts → k < length values → (text : List ℕ) × (view (get_or values k d) ≡ string text)
each_string [] texts k d e h = absurd (omega arith)
each_string (v ∷ values) [] k d e h = let f : ⊥ = cc in absurd f
each_string (v ∷ values) (text ∷ texts) zero d e h = (text, cc)
each_string (v ∷ values) (text ∷ texts) (suc k) d e h = (let rest : items_view values ≡ strings texts = cc in each_string values texts k d rest (omega arith))

strings-push : (texts : List (List ℕ)) (text : List ℕ) → strings (texts ++ text ∷ []) ≡ push_item (strings texts) (string text)
strings-push [] text = refl
strings-push (t ∷ texts) text = ap (item (string t)) (strings-push texts text)

pub items_view-push : (values : List Value) (v : Value) → items_view (values ++ v ∷ []) ≡ push_item (items_view values) (view v)
items_view-push [] v = refl
items_view-push (w ∷ values) v = ap (item (view w)) (items_view-push values v)

-- the values before the next, and then it
pub items_view-more : (values : List Value) (i : ℕ) (v : Value) → i < length values → v ≡ get_or values i v → items_view (take (i + 1) values) ≡ push_item (items_view (take i values)) (view v)
items_view-more values i v h is =
    ap items_view (take_more values i v h) ∙ ap (λ w. items_view (take i values ++ w ∷ [])) (sym is)
    ∙ items_view-push (take i values) v

pub strings_more : (values : List Value) (i : ℕ) (v : Value) (texts : List (List ℕ)) (text : List ℕ) → i < length values → v ≡ get_or values i v
    → items_view (take i values) ≡ strings texts → Some text ≡ as_str (view v) → items_view (take (i + 1) values) ≡ strings (texts ++ text ∷ [])
strings_more values i v texts text h is so_far found =
    items_view-more values i v h is ∙ ap (λ d. push_item (items_view (take i values)) d) (string_from (view v) text found)
    ∙ ap (λ ds. push_item ds (string text)) so_far ∙ sym (strings-push texts text)

-- the keys of a table are those of its entries
pub keys_of-members : (entries : List Entry) → keys_of (members_view entries) ≡ map string_bytes (names_of entries)
keys_of-members [] = refl
keys_of-members (e ∷ entries) = ap (λ ks. string_bytes e.0 ∷ ks) (keys_of-members entries)

module _ (listed : List (List ℕ)) where
  abbrev is_out : String Global → Bool
  is_out key = not (is_listed listed (string_bytes key))

  none_out : (keys : List (String Global)) → find is_out keys ≡ None → AllByRecursion (λ key. is_listed listed key ≡ true) (map string_bytes keys)
  none_out [] e = tt
  none_out (k ∷ keys) e =
      elim (cases_Bool (is_listed listed (string_bytes k))) [
        | inl yes' ↦ (yes', none_out keys (rw yes' at e))
        | inr no' ↦ let f : ◌≡◌ {A = Option (String Global)} (Some k) None = rw no' at e in cc
      ]

  later : (key : List ℕ) (keys : List (String Global)) → AllByRecursion (λ y. slice_cmp nat_cmp key (string_bytes y) ≡ Less) keys
      → AllByRecursion (λ other. slice_cmp nat_cmp other key ≡ Less → is_listed listed other ≡ true) (map string_bytes keys)
  later key [] h = tt
  later key (k ∷ keys) h = (
    λ less.
        let greater : slice_cmp nat_cmp (string_bytes k) key ≡ Greater =
        nat_list_cmp_total.antisymm (string_bytes k) key ∙ ap ordering_reverse h.0 in
        let f : ◌≡◌ {A = Ordering} Less Greater = sym less ∙ greater in cc,
    later key keys h.1,
  )

  -- the first of ascending keys that isn't listed
  record IsOut (keys : List (String Global)) (key : List ℕ) : Type 0 where
    stands : Contains (map string_bytes keys) key
    unlisted : is_listed listed key ≡ false
    first : AllByRecursion (λ other. slice_cmp nat_cmp other key ≡ Less → is_listed listed other ≡ true) (map string_bytes keys)

  some_out : (keys : List (String Global)) (key : String Global) → IsStrictlySortedBy string_cmp keys → find is_out keys ≡ Some key → IsOut keys (string_bytes key)
  unfolding IsStrictlySortedBy
  some_out [] key sorted e = cc
  some_out (k ∷ keys) key sorted e =
      elim (cases_Bool (is_listed listed (string_bytes k))) [
        | inl yes' ↦
            let rest = some_out keys key sorted.1 (rw yes' at e) in
            record {
              stands = (suc rest.stands.0, omega (arith, rest.stands.1), rest.stands.2);
              unlisted = rest.unlisted;
              first = (λ _. yes', rest.first);
            }
        | inr no' ↦
            let some : ◌≡◌ {A = Option (String Global)} (Some k) (Some key) = rw no' at e in
            let is : k ≡ key = cc in
            subst (λ x. IsOut (k ∷ keys) (string_bytes x)) is
            (record {
              stands = (0, omega arith, refl);
              unlisted = no';
              first = (
                λ less. let f : ◌≡◌ {A = Ordering} Equal Less = sym (tied_itself nat_list_cmp_total (string_bytes k)) ∙ less in cc,
                later (string_bytes k) keys sorted.0,
              );
            })
      ]

  pub all_listed : (entries : List Entry) → find is_out (names_of entries) ≡ None → AllListed listed (members_view entries)
  all_listed entries e =
      rw (keys_of-members entries) (All-from_recursion (λ key. is_listed listed key ≡ true) _ (none_out (names_of entries) e))

  pub first_unlisted : (entries : List Entry) (key : String Global) → IsStrictlySortedBy string_cmp (names_of entries)
      → find is_out (names_of entries) ≡ Some key → IsFirstUnlisted listed (members_view entries) (string_bytes key)
  first_unlisted entries key sorted e =
      let out = some_out (names_of entries) key sorted e in
      let keys = keys_of-members entries in
      record {
        stands = subst (λ ks. Contains ks (string_bytes key)) (sym keys) out.stands;
        unlisted = out.unlisted;
        first =
            rw keys
            (All-from_recursion (λ other. slice_cmp nat_cmp other (string_bytes key) ≡ Less → is_listed listed other ≡ true) _ out.first);
      }
