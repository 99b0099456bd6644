-- Accepted items link, where no object has the name of a built-in function.
use Rattle.std.proofs.Common.{◌≡◌, ◌⊎◌, inl, inr, ℕ, zero, suc, ◌+◌, ◌==◌, ◌≤◌, nat_le, Bool, true, false, not, ◌&&◌, ◌||◌, List, [], ◌∷◌, map, codes, refl, sym, ◌∙◌, ap, subst, cond, Option, Some, None, is_some, option_map, IsTrue, arith}
use Rattle.std.proofs.lemmas.Bool.{leb-true}
use Rattle.std.specs.List.{AllByRecursion, Contains, list_any}
use Rattle.std.specs.Str.{bytes_eq}
use Rattle.std.proofs.lemmas.Slice.Eq.{bytes_eq-Decides}
use Rattle.c_types.specs.Types.{void, char, int, pointer_to}
use Rattle.c_types.specs.Compatible.{Compatible}
use Rattle.core_meaning.specs.declared.program.BuiltIn.{BuiltIn}
use Rattle.core_meaning.specs.declared.program.BuiltIn.TheVariants.{Putchar, Getchar, Puts, Exit}
use Rattle.core_meaning.specs.Checking.{Entity, local_entity, local_of_function, file_entity, struct_entity, member_entity, own_entity, Binding}
use Rattle.core_meaning.specs.Entities.{Table, FileName, Sort, Numbers, variable, function}
use Rattle.core_meaning.specs.Linking.{Unit, is_use_of, uses_in, is_tentative, defines, count_whole, count_in_unit, count_defined, count_external, is_internal, built_in_named, built_in_signature, is_duplicate, SortsAgree, external_sort, built_in_sort}
use Rattle.quick_core.specs.Present.{Item, tentative, valued, main_of}
use Rattle.quick_trees.proofs.Decimals.{halves}
use Rattle.quick_trees.proofs.Judging.{IsUse, IsAllowed, as_function}
use Rattle.quick_trees.proofs.JudgedUnit.{item_name, item_as, item_body, definition, with_item, with_items, first_table}
use Rattle.quick_trees.proofs.Readiness.{AreApart, names_of, apart_symmetric}
use Rattle.quick_trees.proofs.LinkedUnit.{table_kept, defined_none, external, linked_unit}

-- ---- names that are used

pub either_holds : (a b : Bool) → (a || b) ≡ true → (a ≡ true) ⊎ (b ≡ true)
either_holds true b h = inl refl
either_holds false b h = inr h

use_of : (Known : List ℕ → Type 0) (x : List ℕ) (e : Entity) → is_use_of x e ≡ true → IsUse Known e → Known x
use_of Known x (file_entity y) h k = subst Known ((bytes_eq-Decides y x).0 h) k
use_of Known x (local_entity slot) h k = absurd k
use_of Known x (local_of_function n slot) h k = absurd k
use_of Known x (struct_entity n) h k = absurd k
use_of Known x (member_entity n m) h k = absurd k
use_of Known x own_entity h k = absurd k

pub used_is_known : (Known : List ℕ → Type 0) (bindings : List Binding) → AllByRecursion (IsAllowed Known) bindings → (x : List ℕ) → uses_in bindings x ≡ true → Known x
used_is_known Known [] h x e = absurd cc
used_is_known Known (b ∷ rest) h x e = elim (either_holds (b.in_expression && is_use_of x b.entity) (uses_in rest x) e) as (λ z. Known x) [
  | inl k ↦ (let parts = halves b.in_expression (is_use_of x b.entity) k in use_of Known x b.entity parts.1 (h.0 parts.0))
  | inr k ↦ used_is_known Known rest h.1 x k
]

-- ---- the table

abbrev pub IsOurs : Option FileName → Type 0
IsOurs o = (o ≡ None) ⊎ ((sort : Sort) × (o ≡ Some (external sort)) × SortsAgree [] sort sort)

int_agrees : Compatible [] [] int int
int_agrees = record { pairs = []; agree = refl; closed = λ k d l. absurd (omega arith) }

void_agrees : Compatible [] [] void void
void_agrees = record { pairs = []; agree = refl; closed = λ k d l. absurd (omega arith) }

text_agrees : Compatible [] [] (pointer_to char) (pointer_to char)
text_agrees = record { pairs = []; agree = refl; closed = λ k d l. absurd (omega arith) }

built_in_agrees : (b : BuiltIn) → SortsAgree [] (function (built_in_signature b)) (function (built_in_signature b))
built_in_agrees Putchar = (int_agrees, (int_agrees, tt))
built_in_agrees Getchar = (int_agrees, tt)
built_in_agrees Puts = (int_agrees, (text_agrees, tt))
built_in_agrees Exit = (void_agrees, (int_agrees, tt))

item_ours : (i : Item) → IsOurs (Some (item_as i))
item_ours (tentative x) = inr (variable int, refl, int_agrees)
item_ours (valued x d) = inr (variable int, refl, int_agrees)
item_ours (main_of c) = inr (function (record { result = int; parameters = [] }), refl, (int_agrees, tt))

choice_ours : (t : Bool) (a b : Option FileName) → IsOurs a → IsOurs b → IsOurs (cond t a b)
choice_ours true a b h k = h
choice_ours false a b h k = k

items_ours : (table : Table FileName) (items : List Item) → ((x : List ℕ) → IsOurs (table x)) → (x : List ℕ) → IsOurs (with_items table items x)
items_ours table [] h x = h x
items_ours table (i ∷ rest) h x =
    items_ours (with_item table i) rest (λ y. choice_ours (bytes_eq y (item_name i)) (Some (item_as i)) (table y) (item_ours i) (h y)) x

pub names_ours : (items : List Item) (x : List ℕ) → IsOurs (with_items first_table items x)
names_ours items x =
    items_ours first_table items
    (λ y. choice_ours (bytes_eq y (codes "putchar")) (Some (as_function (int ∷ []))) None (inr (function (record { result = int; parameters = int ∷ [] }), refl, (int_agrees, (int_agrees, tt)))) (inl refl)) x

internal_by : (o : Option FileName) → IsOurs o → (elim o as (λ y. Bool) [ None ↦ false | Some n ↦ n.internal ]) ≡ false
internal_by o (inl e) = ap (λ p. elim p as (λ y. Bool) [ None ↦ false | Some n ↦ n.internal ]) e
internal_by o (inr h) = ap (λ p. elim p as (λ y. Bool) [ None ↦ false | Some n ↦ n.internal ]) h.1

-- ---- names of built-in functions

abbrev pub IsOwnName : List ℕ → Type 0
IsOwnName x = built_in_named x ≡ None

apart_by : (b : BuiltIn) (x y : List ℕ) (t : Bool) → bytes_eq x y ≡ t → built_in_named x ≡ Some b → IsOwnName y → t ≡ false
apart_by b x y true e h k =
    let same : x ≡ y = (bytes_eq-Decides x y).0 e in
    let z : Some b ≡ None = sym h ∙ (ap built_in_named same ∙ k) in
    absurd cc
apart_by b x y false e h k = refl

pub apart_built_in : (b : BuiltIn) (x : List ℕ) (ys : List (List ℕ)) → built_in_named x ≡ Some b → AllByRecursion IsOwnName ys → AllByRecursion (λ y. bytes_eq x y ≡ false) ys
apart_built_in b x [] h k = tt
apart_built_in b x (y ∷ ys) h k = (apart_by b x y (bytes_eq x y) refl h k.0, apart_built_in b x ys h k.1)

apart_reversed : (x : List ℕ) (ys : List (List ℕ)) → AllByRecursion (λ y. bytes_eq x y ≡ false) ys → AllByRecursion (λ y. bytes_eq y x ≡ false) ys
apart_reversed x [] h = tt
apart_reversed x (y ∷ ys) h = (apart_symmetric x y h.0, apart_reversed x ys h.1)

-- ---- how often a name is defined

count_none : (numbers : Numbers) (items : List Item) (x : List ℕ) → AllByRecursion (λ y. bytes_eq x y ≡ false) (names_of items) → count_whole (map (definition numbers) items) x ≡ 0
count_none numbers [] x h = refl
count_none numbers (i ∷ rest) x h = rw (apart_symmetric x (item_name i) h.0, count_none numbers rest x h.1) refl

one_by : (t u : Bool) (n : ℕ) → (t ≡ true → n ≡ 0) → n ≤ 1 → cond (t && u) 1 0 + n ≤ 1
one_by true true n h l = let none : n ≡ 0 = h refl in omega arith
one_by true false n h l = omega arith
one_by false u n h l = omega arith

count_one : (numbers : Numbers) (items : List Item) (x : List ℕ) → AreApart (names_of items) → count_whole (map (definition numbers) items) x ≤ 1
count_one numbers [] x h = omega arith
count_one numbers (i ∷ rest) x h =
    one_by (bytes_eq (item_name i) x) (not (is_tentative (item_body numbers i))) (count_whole (map (definition numbers) rest) x)
    (λ e. count_none numbers rest x (subst (λ z. AllByRecursion (λ y. bytes_eq z y ≡ false) (names_of rest)) ((bytes_eq-Decides (item_name i) x).0 e) h.0))
    (count_one numbers rest x h.1)

one_or : (t : Bool) (n : ℕ) → n ≤ 1 → cond t 1 n ≤ 1
one_or true n l = omega arith
one_or false n l = l

few_by : (t : Bool) (n : ℕ) → n ≤ 1 → cond t 0 n + 0 ≤ 1
few_by true n l = omega arith
few_by false n l = omega arith

none_by : (t : Bool) (n : ℕ) → n ≡ 0 → cond t 0 n + 0 ≡ 0
none_by true n l = refl
none_by false n l = omega arith

none_defined : (n : ℕ) (d : Bool) → n ≡ 0 → d ≡ false → cond ((n == 0) && d) 1 n ≡ 0
none_defined n d h k = rw (h, k) refl

module _ (numbers : Numbers) (uses : List ℕ → Bool) (items : List Item) (apart : AreApart (names_of items)) (own : AllByRecursion IsOwnName (names_of items)) where
  abbrev unit : Unit
  unit = linked_unit numbers uses items

  external_few : (x : List ℕ) → count_external (unit ∷ []) x ≤ 1
  external_few x = few_by (is_internal unit x) (count_defined unit x) (one_or ((count_whole unit.defined x == 0) && defines unit x) (count_whole unit.defined x) (count_one numbers items x apart))

  external_none : (b : BuiltIn) (x : List ℕ) → built_in_named x ≡ Some b → count_external (unit ∷ []) x ≡ 0
  external_none b x h =
      let others = apart_built_in b x (names_of items) h own in
      none_by (is_internal unit x) (count_defined unit x)
      (none_defined (count_whole unit.defined x) (defines unit x) (count_none numbers items x others) (defined_none numbers items x (apart_reversed x (names_of items) others)))

  is_some_of : (o : Option BuiltIn) → is_some o ≡ true → (b : BuiltIn) × (o ≡ Some b)
  is_some_of (Some b) h = (b, refl)
  is_some_of None h = absurd cc

  pub no_duplicate : (x : List ℕ) → IsTrue (is_duplicate (unit ∷ []) x) → ⊥
  no_duplicate x h = elim (either_holds (nat_le 2 (count_external (unit ∷ []) x) || list_any (λ u. nat_le 2 (count_in_unit u x)) (unit ∷ [])) (is_some (built_in_named x) && nat_le 1 (count_external (unit ∷ []) x)) h) as (λ z. ⊥) [
    | inl k ↦ elim (either_holds (nat_le 2 (count_external (unit ∷ []) x)) (list_any (λ u. nat_le 2 (count_in_unit u x)) (unit ∷ [])) k) as (λ z. ⊥) [
      | inl l ↦ (let two = leb-true 2 (count_external (unit ∷ []) x) l in let few = external_few x in absurd (omega arith))
      | inr l ↦ (
          let inside : is_internal unit x ≡ false = internal_by (unit.names x) (names_ours items x) in
          let none_there : list_any (λ u. nat_le 2 (count_in_unit u x)) (unit ∷ []) ≡ false = ap (λ t. nat_le 2 (cond t (count_defined unit x) 0) || false) inside in
          let z : true ≡ false = sym l ∙ none_there in absurd cc)
    ]
    | inr k ↦ (
        let parts = halves (is_some (built_in_named x)) (nat_le 1 (count_external (unit ∷ []) x)) k in
        let found = is_some_of (built_in_named x) parts.0 in
        let one_there = leb-true 1 (count_external (unit ∷ []) x) parts.1 in
        let none_there = external_none found.0 x found.1 in
        absurd (omega arith))
  ]

  -- ---- declarations of one name

  two_of : (a b : Option Sort) (x : Option Sort) → Contains (a ∷ b ∷ []) x → (a ≡ x) ⊎ (b ≡ x)
  two_of a b x (zero, l, e) = inl e
  two_of a b x (suc zero, l, e) = inr e
  two_of a b x (suc (suc k), l, e) = absurd (omega arith)

  not_declared : (b : BuiltIn) (x : List ℕ) → built_in_named x ≡ Some b → bytes_eq x (codes "putchar") ≡ false → unit.names x ≡ None
  not_declared b x h k =
      table_kept first_table items x (apart_built_in b x (names_of items) h own) ∙ ap (λ t. cond t (Some (as_function (int ∷ []))) None) k

  found_sort : (first : Sort) (o : Option BuiltIn) → option_map (λ b. function (built_in_signature b)) o ≡ Some first → (b : BuiltIn) × (o ≡ Some b) × (first ≡ function (built_in_signature b))
  found_sort first None h = absurd cc
  found_sort first (Some b) h = (b, refl, cc)

  abbrev sort_or : Sort → Option FileName → Sort
  sort_or otherwise None = otherwise
  sort_or otherwise (Some n) = n.sort

  abbrev sort_outside : Option FileName → Option Sort
  sort_outside o = elim o as (λ y. Option Sort) [ None ↦ None | Some n ↦ cond n.internal None (Some n.sort) ]

  outside : (first : Sort) (o : Option FileName) → IsOurs o → sort_outside o ≡ Some first → (o ≡ Some (external first)) × SortsAgree [] first first
  outside first o (inl e) h = let z : None ≡ Some first = sym (ap sort_outside e) ∙ h in absurd cc
  outside first o (inr (sort, e, agrees)) h =
      let z : Some sort ≡ Some first = sym (ap sort_outside e) ∙ h in
      let same : sort ≡ first = cc in
      (subst (λ f. o ≡ Some (external f)) same e, subst (λ f. SortsAgree [] f f) same agrees)

  putchar_in : AllByRecursion (λ y. bytes_eq (codes "putchar") y ≡ false) (names_of items) → unit.names (codes "putchar") ≡ Some (as_function (int ∷ []))
  putchar_in h = table_kept first_table items (codes "putchar") h

  mixed : (b : BuiltIn) (x : List ℕ) (second : Sort) (t : Bool) → bytes_eq x (codes "putchar") ≡ t → built_in_named x ≡ Some b → unit.names x ≡ Some (external second) → second ≡ function (built_in_signature b)
  mixed b x second true e h k =
      let same : x ≡ codes "putchar" = (bytes_eq-Decides x (codes "putchar")).0 e in
      let is_putchar : Some Putchar ≡ Some b = sym (ap built_in_named same) ∙ h in
      let b_is : Putchar ≡ b = cc in
      let named = putchar_in (apart_built_in Putchar (codes "putchar") (names_of items) refl own) in
      let z : Some (external second) ≡ Some (as_function (int ∷ [])) = sym k ∙ (ap unit.names same ∙ named) in
      ap (sort_or second) z ∙ ap (λ c. function (built_in_signature c)) b_is
  mixed b x second false e h k = let z : None ≡ Some (external second) = sym (not_declared b x h e) ∙ k in absurd cc

  abbrev Inside : List ℕ → Sort → Type 0
  Inside x first = ((b : BuiltIn) × (built_in_named x ≡ Some b) × (first ≡ function (built_in_signature b))) ⊎ ((unit.names x ≡ Some (external first)) × SortsAgree [] first first)

  inside_of : (x : List ℕ) (first : Sort) → Contains (built_in_sort x ∷ external_sort x unit ∷ []) (Some first) → Inside x first
  inside_of x first h = elim (two_of (built_in_sort x) (external_sort x unit) (Some first) h) as (λ z. Inside x first) [
    | inl e ↦ inl (found_sort first (built_in_named x) e)
    | inr e ↦ inr (outside first (unit.names x) (names_ours items x) e)
  ]

  agree_inside : (x : List ℕ) (first second : Sort) → Inside x first → Inside x second → SortsAgree [] first second
  agree_inside x first second (inl (b, h, e)) (inl (c, k, f)) =
      let z : Some b ≡ Some c = sym h ∙ k in
      let same : b ≡ c = cc in
      let second_is : function (built_in_signature b) ≡ second = ap (λ d. function (built_in_signature d)) same ∙ sym f in
      subst (λ s. SortsAgree [] s second) (sym e) (subst (λ s. SortsAgree [] (function (built_in_signature b)) s) second_is (built_in_agrees b))
  agree_inside x first second (inl (b, h, e)) (inr (k, f)) =
      let second_is = mixed b x second (bytes_eq x (codes "putchar")) refl h k in
      subst (λ s. SortsAgree [] s second) (sym e) (subst (λ s. SortsAgree [] (function (built_in_signature b)) s) (sym second_is) (built_in_agrees b))
  agree_inside x first second (inr (h, e)) (inl (c, k, f)) =
      let first_is = mixed c x first (bytes_eq x (codes "putchar")) refl k h in
      subst (λ s. SortsAgree [] s second) (sym first_is) (subst (λ s. SortsAgree [] (function (built_in_signature c)) s) (sym f) (built_in_agrees c))
  agree_inside x first second (inr (h, e)) (inr (k, f)) =
      let z : Some (external first) ≡ Some (external second) = sym h ∙ k in
      subst (λ s. SortsAgree [] first s) (ap (sort_or first) z) e

  pub all_agree : (x : List ℕ) (first second : Sort) → Contains (built_in_sort x ∷ external_sort x unit ∷ []) (Some first) → Contains (built_in_sort x ∷ external_sort x unit ∷ []) (Some second) → SortsAgree [] first second
  all_agree x first second h k = agree_inside x first second (inside_of x first h) (inside_of x second k)
