-- Accepted items have what their judgement needs: names that are new where they are declared, and known where they are used.
use Rattle.std.proofs.Common.{◌≡◌, ◌⊎◌, inl, inr, ℕ, Bool, true, false, not, ◌&&◌, List, [], ◌∷◌, ◌++◌, map, codes, refl, sym, ◌∙◌, ap, subst, cond, Some, None, IsTrue}
use Rattle.std.specs.List.{Contains, AllByRecursion, IsDistinct}
use Rattle.std.specs.Str.{bytes_eq}
use Rattle.std.proofs.lemmas.Slice.Eq.{bytes_eq-Decides}
use Rattle.c_types.specs.Types.{int}
use Rattle.core_meaning.specs.Entities.{Table, with_entry, FileName}
use Rattle.quick_form.specs.Words.{is_name, is_identifier, is_keyword}
use Rattle.quick_form.specs.Form as form
use Rattle.quick_form.specs.Form.{Named, Literal, Term, Sum}
use Rattle.quick_form.specs.Program as quick
use Rattle.quick_form.specs.Program.{Code, object_names, visible_names, bodies, used_names, operand_names, term_names, sum_names, IsAccepted}
use Rattle.quick_core.specs.Present.{Item, tentative, valued, main_of, declarations, operand_numbers, term_numbers, sum_numbers, code_numbers, item_numbers}
use Rattle.quick_core.proofs.Cells.{is_in}
use Rattle.quick_core.proofs.Starts.{all_by, split_all, IsName, IsNumber, contains_is_in}
use Rattle.quick_trees.specs.Laws.{IsSpelled}
use Rattle.quick_trees.proofs.Decimals.{halves}
use Rattle.quick_trees.proofs.Judging.{as_object, as_function, IsKnown, AreKnown, IsKnownSum, IsKnownCode}
use Rattle.quick_trees.proofs.JudgedUnit.{item_name, with_item, AreReady, first_table}

-- ---- names

pub apart_symmetric : (x y : List ℕ) → bytes_eq x y ≡ false → bytes_eq y x ≡ false
apart_symmetric x y h = by_test (bytes_eq y x) refl
  where
    by_test : (t : Bool) → bytes_eq y x ≡ t → bytes_eq y x ≡ false
    by_test true e =
        let same : y ≡ x = (bytes_eq-Decides y x).0 e in
        let t : true ≡ false = sym ((bytes_eq-Decides x y).1 (sym same)) ∙ h in
        absurd cc
    by_test false e = e

pub same_bytes : (x : List ℕ) → bytes_eq x x ≡ true
same_bytes x = (bytes_eq-Decides x x).1 refl

-- each name differs from those behind it
abbrev pub AreApart : List (List ℕ) → Type 0
AreApart [] = Unit {0}
AreApart (x ∷ xs) = AllByRecursion (λ y. bytes_eq x y ≡ false) xs × AreApart xs

pub apart_from : (xs : List (List ℕ)) → IsDistinct bytes_eq xs → AreApart xs
unfolding IsDistinct
apart_from [] h = tt
apart_from (x ∷ xs) h = (h.0, apart_from xs h.1)

abbrev pub IsProperName : List ℕ → Type 0
IsProperName x = IsTrue (is_name x)

not_true : (b : Bool) → IsTrue (not b) → b ≡ false
not_true true h = absurd cc
not_true false h = refl

-- the parts of a name's definition
name_parts : (x : List ℕ) → IsProperName x → IsTrue (not (bytes_eq x (codes "putchar"))) × IsTrue (not (bytes_eq x (codes "main")))
name_parts x h =
    let word = is_identifier x && not (is_keyword x) in
    let outer = halves (word && not (bytes_eq x (codes "putchar"))) (not (bytes_eq x (codes "main"))) h in
    ((halves word (not (bytes_eq x (codes "putchar"))) outer.0).1, outer.1)

pub not_main : (x : List ℕ) → IsProperName x → bytes_eq x (codes "main") ≡ false
not_main x h = not_true (bytes_eq x (codes "main")) (name_parts x h).1

pub not_putchar : (x : List ℕ) → IsProperName x → bytes_eq x (codes "putchar") ≡ false
not_putchar x h = not_true (bytes_eq x (codes "putchar")) (name_parts x h).0

abbrev pub names_of : List Item → List (List ℕ)
names_of items = map item_name items

abbrev pub objects_of : List Item → List (List ℕ)
objects_of items = object_names (declarations items)

-- what holds of the objects' names and of `main` holds of all names
pub all_names : (P : List ℕ → Type 0) (items : List Item) → AllByRecursion P (objects_of items) → P (codes "main") → AllByRecursion P (names_of items)
all_names P [] h k = tt
all_names P (tentative x ∷ rest) h k = (h.0, all_names P rest h.1 k)
all_names P (valued x d ∷ rest) h k = (h.0, all_names P rest h.1 k)
all_names P (main_of c ∷ rest) h k = (k, all_names P rest h k)

pub all_mapped : (P Q : List ℕ → Type 0) (xs : List (List ℕ)) → ((x : List ℕ) → P x → Q x) → AllByRecursion P xs → AllByRecursion Q xs
all_mapped P Q [] f h = tt
all_mapped P Q (x ∷ xs) f h = (f x h.0, all_mapped P Q xs f h.1)

-- without a body of `main` all names are objects'
objects_alone : (items : List Item) → bodies (declarations items) ≡ [] → names_of items ≡ objects_of items
objects_alone [] e = refl
objects_alone (tentative x ∷ rest) e = ap (λ xs. x ∷ xs) (objects_alone rest e)
objects_alone (valued x d ∷ rest) e = ap (λ xs. x ∷ xs) (objects_alone rest e)
objects_alone (main_of c ∷ rest) e = absurd cc

pub names_distinct : (items : List Item) (body : Code) → bodies (declarations items) ≡ body ∷ [] → AllByRecursion IsProperName (objects_of items) → AreApart (objects_of items) → AreApart (names_of items)
names_distinct [] body e h d = absurd cc
names_distinct (tentative x ∷ rest) body e h d =
    (all_names (λ y. bytes_eq x y ≡ false) rest d.0 (not_main x h.0), names_distinct rest body e h.1 d.1)
names_distinct (valued x n ∷ rest) body e h d =
    (all_names (λ y. bytes_eq x y ≡ false) rest d.0 (not_main x h.0), names_distinct rest body e h.1 d.1)
names_distinct (main_of c ∷ rest) body e h d =
    let none_left : bodies (declarations rest) ≡ [] = cc in
    let same = sym (objects_alone rest none_left) in (
      subst (λ xs. AllByRecursion (λ y. bytes_eq (codes "main") y ≡ false) xs) same (all_mapped IsProperName (λ y. bytes_eq (codes "main") y ≡ false) (objects_of rest) (λ y k. apart_symmetric y (codes "main") (not_main y k)) h),
      subst (λ xs. AreApart xs) same d,
    )

-- ---- what is known

module _ (visible : List (List ℕ)) where
  abbrev pub Known : List ℕ → Type 0
  Known x = IsName visible x

  known_operand : (o : form.Operand) → AllByRecursion Known (operand_names o) → AllByRecursion IsNumber (operand_numbers o) → IsKnown Known o
  known_operand (Named x) h k = h.0
  known_operand (Literal d) h k = k.0

  known_terms : (ts : List Term) → AllByRecursion Known (term_names ts) → AllByRecursion IsNumber (term_numbers ts) → AreKnown Known ts
  known_terms [] h k = tt
  known_terms (t ∷ ts) h k =
      let h' = split_all Known (operand_names t.operand) (term_names ts) h in
      let k' = split_all IsNumber (operand_numbers t.operand) (term_numbers ts) k in
      (known_operand t.operand h'.0 k'.0, known_terms ts h'.1 k'.1)

  known_sum : (s : Sum) → AllByRecursion Known (sum_names s) → AllByRecursion IsNumber (sum_numbers s) → IsKnownSum Known s
  known_sum s h k =
      let h' = split_all Known (operand_names s.first) (term_names s.more) h in
      let k' = split_all IsNumber (operand_numbers s.first) (term_numbers s.more) k in
      record { first = known_operand s.first h'.0 k'.0; more = known_terms s.more h'.1 k'.1 }

  known_code : (c : Code) → AllByRecursion Known (used_names c) → AllByRecursion IsNumber (code_numbers c) → IsKnownCode Known c
  known_code quick.done h k = tt
  known_code (quick.assign x s rest) h k =
      let h' = split_all Known (sum_names s) (used_names rest) h.1 in
      let k' = split_all IsNumber (sum_numbers s) (code_numbers rest) k in
      (h.0, known_sum s h'.0 k'.0, known_code rest h'.1 k'.1)
  known_code (quick.put s rest) h k =
      let h' = split_all Known (sum_names s) (used_names rest) h in
      let k' = split_all IsNumber (sum_numbers s) (code_numbers rest) k in
      (known_sum s h'.0 k'.0, known_code rest h'.1 k'.1)
  known_code (quick.give s rest) h k =
      let h' = split_all Known (sum_names s) (used_names rest) h in
      let k' = split_all IsNumber (sum_numbers s) (code_numbers rest) k in
      (known_sum s h'.0 k'.0, known_code rest h'.1 k'.1)
  known_code (quick.while_ s body rest) h k =
      let h' = split_all Known (sum_names s) (used_names body ++ used_names rest) h in
      let k' = split_all IsNumber (sum_numbers s) (code_numbers body ++ code_numbers rest) k in
      let h'' = split_all Known (used_names body) (used_names rest) h'.1 in
      let k'' = split_all IsNumber (code_numbers body) (code_numbers rest) k'.1 in
      (known_sum s h'.0 k'.0, known_code body h''.0 k''.0, known_code rest h''.1 k''.1)

  -- ---- tables

  abbrev IsFresh : Table FileName → List Item → Type 0
  IsFresh table items = AllByRecursion (λ x. table x ≡ None) (names_of items)

  -- another name stays as it is
  entry_apart : (table : Table FileName) (x y : List ℕ) (n : FileName) → bytes_eq y x ≡ false → with_entry table x n y ≡ table y
  entry_apart table x y n h = ap (λ b. cond b (Some n) (table y)) h

  -- a name that is there isn't the new one
  entry_kept : (table : Table FileName) (x y : List ℕ) (n m : FileName) → table x ≡ None → table y ≡ Some m → with_entry table x n y ≡ Some m
  entry_kept table x y n m h k = kept_by (bytes_eq y x) refl
    where
      kept_by : (t : Bool) → bytes_eq y x ≡ t → with_entry table x n y ≡ Some m
      kept_by true e = let same : y ≡ x = (bytes_eq-Decides y x).0 e in let t : None ≡ Some m = sym h ∙ (ap table (sym same) ∙ k) in absurd cc
      kept_by false e = entry_apart table x y n e ∙ k

  fresh_kept : (table : Table FileName) (x : List ℕ) (n : FileName) (ys : List (List ℕ)) → AllByRecursion (λ y. bytes_eq x y ≡ false) ys → AllByRecursion (λ y. table y ≡ None) ys
      → AllByRecursion (λ y. with_entry table x n y ≡ None) ys
  fresh_kept table x n [] h k = tt
  fresh_kept table x n (y ∷ ys) h k = (entry_apart table x y n (apart_symmetric x y h.0) ∙ k.0, fresh_kept table x n ys h.1 k.1)

  -- what is known is in the table, or declared before `main`
  abbrev IsAhead : Table FileName → List Item → Type 0
  IsAhead table items = (x : List ℕ) → Known x → (table x ≡ Some as_object) ⊎ IsName (visible_names (declarations items)) x

  next_or_later : (table : Table FileName) (x y : List ℕ) (names : List (List ℕ)) (t : Bool) → bytes_eq y x ≡ t → IsTrue (cond t true (is_in names y)) → (with_entry table x as_object y ≡ Some as_object) ⊎ IsName names y
  next_or_later table x y names true e h = inl (ap (λ b. cond b (Some as_object) (table y)) e)
  next_or_later table x y names false e h = inr h

  ahead_kept : (table : Table FileName) (x : List ℕ) (items rest : List Item) → visible_names (declarations items) ≡ x ∷ visible_names (declarations rest) → table x ≡ None → IsAhead table items → IsAhead (with_entry table x as_object) rest
  ahead_kept table x items rest e none_yet h y known = elim (h y known) as (λ z. (with_entry table x as_object y ≡ Some as_object) ⊎ IsName (visible_names (declarations rest)) y) [
    | inl k ↦ inl (entry_kept table x y as_object as_object none_yet k)
    | inr k ↦ next_or_later table x y (visible_names (declarations rest)) (bytes_eq y x) refl (subst (λ ns. IsName ns y) e k)
  ]

  ready_without : (table : Table FileName) (items : List Item) → bodies (declarations items) ≡ [] → IsFresh table items → AreApart (names_of items) → AllByRecursion IsNumber (item_numbers items) → AreReady Known table items
  ready_without table [] e f d n = tt
  ready_without table (tentative x ∷ rest) e f d n =
      (f.0, tt, ready_without (with_item table (tentative x)) rest e (fresh_kept table x as_object (names_of rest) d.0 f.1) d.1 n)
  ready_without table (valued x v ∷ rest) e f d n =
      (f.0, n.0, ready_without (with_item table (valued x v)) rest e (fresh_kept table x as_object (names_of rest) d.0 f.1) d.1 n.1)
  ready_without table (main_of c ∷ rest) e f d n = absurd cc

  main_sees : (table : Table FileName) (c : Code) (rest : List Item) → table (codes "main") ≡ None → IsAhead table (main_of c ∷ rest) → (x : List ℕ) → Known x → with_item table (main_of c) x ≡ Some as_object
  main_sees table c rest none_yet a x known = elim (a x known) as (λ z. with_item table (main_of c) x ≡ Some as_object) [
    | inl k ↦ entry_kept table (codes "main") x (as_function []) as_object none_yet k
    | inr k ↦ absurd cc
  ]

  ready : (table : Table FileName) (items : List Item) (body : Code) → bodies (declarations items) ≡ body ∷ [] → IsFresh table items → AreApart (names_of items) → AllByRecursion IsNumber (item_numbers items)
      → AllByRecursion Known (used_names body) → IsAhead table items → table (codes "putchar") ≡ Some (as_function (int ∷ [])) → AreReady Known table items
  ready table [] body e f d n u a p = absurd cc
  ready table (tentative x ∷ rest) body e f d n u a p = (
    f.0,
    tt,
    ready (with_item table (tentative x)) rest body e (fresh_kept table x as_object (names_of rest) d.0 f.1) d.1 n u
        (ahead_kept table x (tentative x ∷ rest) rest refl f.0 a) (entry_kept table x (codes "putchar") as_object (as_function (int ∷ [])) f.0 p),
  )
  ready table (valued x v ∷ rest) body e f d n u a p = (
    f.0,
    n.0,
    ready (with_item table (valued x v)) rest body e (fresh_kept table x as_object (names_of rest) d.0 f.1) d.1 n.1 u
        (ahead_kept table x (valued x v ∷ rest) rest refl f.0 a) (entry_kept table x (codes "putchar") as_object (as_function (int ∷ [])) f.0 p),
  )
  ready table (main_of c ∷ rest) body e f d n u a p =
      let same : body ≡ c = cc in
      let none_left : bodies (declarations rest) ≡ [] = cc in
      let numbers = split_all IsNumber (code_numbers c) (item_numbers rest) n in (
        f.0,
        (known_code c (subst (λ b. AllByRecursion Known (used_names b)) same u) numbers.0, main_sees table c rest f.0 a, entry_kept table (codes "main") (codes "putchar") (as_function []) (as_function (int ∷ [])) f.0 p),
        ready_without (with_item table (main_of c)) rest none_left (fresh_kept table (codes "main") (as_function []) (names_of rest) d.0 f.1) d.1 numbers.1,
      )

all_contained : (xs ys : List (List ℕ)) → AllByRecursion (Contains xs) ys → AllByRecursion (IsName xs) ys
all_contained xs [] h = tt
all_contained xs (y ∷ ys) h = (contains_is_in xs y h.0.0 h.0.1 h.0.2, all_contained xs ys h.1)

abbrev pub visible_of : List Item → List (List ℕ)
visible_of items = visible_names (declarations items)

-- the names of a unit
pub record HasNames (items : List Item) : Type 0 where
  pub proper : AllByRecursion IsProperName (objects_of items)
  pub apart : AreApart (names_of items)
  pub beside_putchar : AllByRecursion (λ x. bytes_eq x (codes "putchar") ≡ false) (names_of items)

pub has_names : (items : List Item) → IsSpelled items → IsAccepted (declarations items) → HasNames items
has_names items s a =
    let proper = all_by IsProperName (objects_of items) s.names in
    record {
      proper = proper;
      apart = names_distinct items a.body a.once proper (apart_from (objects_of items) a.distinct);
      beside_putchar = all_names (λ x. bytes_eq x (codes "putchar") ≡ false) items (all_mapped IsProperName (λ x. bytes_eq x (codes "putchar") ≡ false) (objects_of items) not_putchar proper) refl;
    }

pub are_ready : (items : List Item) → IsSpelled items → IsAccepted (declarations items) → AreReady (Known (visible_of items)) first_table items
are_ready items s a =
    let names = has_names items s a in
    ready (visible_of items) first_table items a.body a.once
    (all_mapped (λ x. bytes_eq x (codes "putchar") ≡ false) (λ x. first_table x ≡ None) (names_of items) (λ x h. ap (λ b. cond b (Some (as_function (int ∷ []))) None) h) names.beside_putchar)
    names.apart (all_by IsNumber (item_numbers items) s.numbers)
    (all_contained (visible_of items) (used_names a.body) (all_by (Contains (visible_of items)) (used_names a.body) a.known)) (λ x h. inr h) refl
