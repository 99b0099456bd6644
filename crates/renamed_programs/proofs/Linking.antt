-- Units whose names correspond are linked alike: the same definitions are counted, listed and found for names that correspond. A pair of units
-- (`Pair`) stands at one place of both lists; `LinkedAlike` says which names of the lists correspond.
use Rattle.std.proofs.Common.{◌≡◌, ℕ, ◌+◌, Bool, true, false, List, [], ◌∷◌, refl, sym, ap, ◌∙◌}
use Rattle.std.specs.Prelude.{Some, None, option_map, not, if◌then◌else◌, ◌==◌, ◌&&◌, ◌||◌}
use Rattle.std.specs.Str.{bytes_eq}
use Rattle.std.specs.List.{AllZip, list_any}
use Rattle.std.specs.Cmp.Lexicographic.{bytes_decides}
use Rattle.std.proofs.lemmas.Bool.{false≢true}
use Rattle.core_meaning.specs.UnitNames.{Defined}
use Rattle.core_meaning.specs.Linking.{Unit, is_internal, is_tentative, defines, count_whole, count_defined, place_where, whole_body}
use Rattle.renamed_programs.proofs.Alike.{Naming}
use Rattle.renamed_programs.proofs.Units.{OneToOne, SameDefined}

-- ---- tests

pub and_none : (x y : Bool) → (x && false) ≡ (y && false)
and_none true true = refl
and_none true false = refl
and_none false true = refl
and_none false false = refl

pub bytes_same : (a b : List ℕ) → a ≡ b → bytes_eq a b ≡ true
bytes_same a b e = (bytes_decides a b).1 e

pub bytes_other : (a b : List ℕ) → (a ≡ b → ⊥) → bytes_eq a b ≡ false
bytes_other a b h = by (bytes_eq a b) refl
  where
    by : (x : Bool) → bytes_eq a b ≡ x → bytes_eq a b ≡ false
    by true e = absurd (h ((bytes_decides a b).0 e))
    by false e = e

-- two tests that decide the same
pub both_tests : (a b c d : List ℕ) → (a ≡ b → c ≡ d) → (c ≡ d → a ≡ b) → bytes_eq a b ≡ bytes_eq c d
both_tests a b c d f g = by (bytes_eq a b) refl
  where
    by : (x : Bool) → bytes_eq a b ≡ x → bytes_eq a b ≡ bytes_eq c d
    by true e = e ∙ sym (bytes_same c d (f ((bytes_decides a b).0 e)))
    by false e = e ∙ sym (bytes_other c d (λ h. false≢true (sym e ∙ bytes_same a b (g h))))

pub turned : (a b : List ℕ) → bytes_eq a b ≡ bytes_eq b a
turned a b = both_tests a b b a (λ e. sym e) (λ e. sym e)

pub any_same : {A B : Type 0} (R : A → B → Type 0) (p : A → Bool) (q : B → Bool) (xs : List A) (ys : List B) → AllZip R xs ys → ((x : A) (y : B) → R x y → p x ≡ q y) → list_any p xs ≡ list_any q ys
any_same R p q [] [] h f = refl
any_same R p q [] (y ∷ ys) h f = absurd h
any_same R p q (x ∷ xs) [] h f = absurd h
any_same R p q (x ∷ xs) (y ∷ ys) h f = ap (λ b. b || list_any p xs) (f x y h.0) ∙ ap (λ b. q y || b) (any_same R p q xs ys h.1 f)

pub place_same : {A B : Type 0} (R : A → B → Type 0) (p : A → Bool) (q : B → Bool) (xs : List A) (ys : List B) → AllZip R xs ys → ((x : A) (y : B) → R x y → p x ≡ q y) → place_where p xs ≡ place_where q ys
place_same R p q [] [] h f = refl
place_same R p q [] (y ∷ ys) h f = absurd h
place_same R p q (x ∷ xs) [] h f = absurd h
place_same R p q (x ∷ xs) (y ∷ ys) h f =
    ap (λ b. if b then Some 0 else option_map (λ n. n + 1) (place_where p xs)) (f x y h.0) ∙ ap (λ o. if q y then Some 0 else option_map (λ n. n + 1) o) (place_same R p q xs ys h.1 f)

module _ (named : ℕ → Naming) (one : (i : ℕ) → OneToOne (named i)) where
  pub record SameLinkedUnit (i : ℕ) (u v : Unit) : Type 0 where
    pub names : (a b : List ℕ) → named i a b → u.names a ≡ v.names b
    pub order : AllZip (named i) u.order v.order
    pub defined : AllZip (SameDefined (named i) (one i)) u.defined v.defined

  abbrev pub SameLinkedUnits : ℕ → List Unit → List Unit → Type 0
  SameLinkedUnits i [] [] = Prim.Unit {0}
  SameLinkedUnits i [] (v ∷ vs) = ⊥
  SameLinkedUnits i (u ∷ us) [] = ⊥
  SameLinkedUnits i (u ∷ us) (v ∷ vs) = SameLinkedUnit i u v × SameLinkedUnits (i + 1) us vs

  -- ---- definitions of a name in a pair of units

  abbrev pub Same : ℕ → Defined → Defined → Type 0
  Same i d e = SameDefined (named i) (one i) d e

  abbrev pub TestsAlike : ℕ → List ℕ → List ℕ → Type 0
  TestsAlike i a b = (d e : Defined) → Same i d e → bytes_eq d.name a ≡ bytes_eq e.name b

  whole_counted : (i : ℕ) (a b : List ℕ) (ds es : List Defined) → AllZip (Same i) ds es → TestsAlike i a b → count_whole ds a ≡ count_whole es b
  whole_counted i a b [] [] h f = refl
  whole_counted i a b [] (e ∷ es) h f = absurd h
  whole_counted i a b (d ∷ ds) [] h f = absurd h
  whole_counted i a b (d ∷ ds) (e ∷ es) h f =
      ap (λ (t : Bool). (if t && not (is_tentative d.body) then 1 else 0) + count_whole ds a) (f d e h.0)
      ∙ ap (λ body. (if bytes_eq e.name b && not (is_tentative body) then 1 else 0) + count_whole ds a) h.0.body
      ∙ ap (λ n. (if bytes_eq e.name b && not (is_tentative e.body) then 1 else 0) + n) (whole_counted i a b ds es h.1 f)

  pub defines_same : (i : ℕ) (u v : Unit) (a b : List ℕ) → SameLinkedUnit i u v → TestsAlike i a b → defines u a ≡ defines v b
  defines_same i u v a b h f = any_same (Same i) (λ d. bytes_eq d.name a) (λ d. bytes_eq d.name b) u.defined v.defined h.defined f

  pub counted_same : (i : ℕ) (u v : Unit) (a b : List ℕ) → SameLinkedUnit i u v → TestsAlike i a b → count_defined u a ≡ count_defined v b
  counted_same i u v a b h f =
      ap (λ (n : ℕ). if n == 0 && defines u a then 1 else n) (whole_counted i a b u.defined v.defined h.defined f)
      ∙ ap (λ (t : Bool). if count_whole v.defined b == 0 && t then 1 else count_whole v.defined b) (defines_same i u v a b h f)

  pub bodies_same : (i : ℕ) (a b : List ℕ) (ds es : List Defined) → AllZip (Same i) ds es → TestsAlike i a b → whole_body ds a ≡ whole_body es b
  bodies_same i a b [] [] h f = refl
  bodies_same i a b [] (e ∷ es) h f = absurd h
  bodies_same i a b (d ∷ ds) [] h f = absurd h
  bodies_same i a b (d ∷ ds) (e ∷ es) h f =
      ap (λ (t : Bool). if t && not (is_tentative d.body) then Some d.body else whole_body ds a) (f d e h.0)
      ∙ ap (λ body. if bytes_eq e.name b && not (is_tentative body) then Some body else whole_body ds a) h.0.body
      ∙ ap (λ o. if bytes_eq e.name b && not (is_tentative e.body) then Some e.body else o) (bodies_same i a b ds es h.1 f)

  -- where no definition is of the name
  pub none_left : (i : ℕ) (a : List ℕ) (ds es : List Defined) → AllZip (Same i) ds es → ((d e : Defined) → Same i d e → bytes_eq d.name a ≡ false) → (list_any (λ d. bytes_eq d.name a) ds ≡ false) × (count_whole ds a ≡ 0)
  none_left i a [] [] h f = (refl, refl)
  none_left i a [] (e ∷ es) h f = absurd h
  none_left i a (d ∷ ds) [] h f = absurd h
  none_left i a (d ∷ ds) (e ∷ es) h f =
      let rest = none_left i a ds es h.1 f in
      (ap (λ b. b || list_any (λ x. bytes_eq x.name a) ds) (f d e h.0) ∙ rest.0, ap (λ (t : Bool). (if t && not (is_tentative d.body) then 1 else 0) + count_whole ds a) (f d e h.0) ∙ ap (λ n. 0 + n) rest.1)

  pub none_right : (i : ℕ) (b : List ℕ) (ds es : List Defined) → AllZip (Same i) ds es → ((d e : Defined) → Same i d e → bytes_eq e.name b ≡ false) → (list_any (λ d. bytes_eq d.name b) es ≡ false) × (count_whole es b ≡ 0)
  none_right i b [] [] h f = (refl, refl)
  none_right i b [] (e ∷ es) h f = absurd h
  none_right i b (d ∷ ds) [] h f = absurd h
  none_right i b (d ∷ ds) (e ∷ es) h f =
      let rest = none_right i b ds es h.1 f in
      (ap (λ t. t || list_any (λ x. bytes_eq x.name b) es) (f d e h.0) ∙ rest.0, ap (λ (t : Bool). (if t && not (is_tentative e.body) then 1 else 0) + count_whole es b) (f d e h.0) ∙ ap (λ n. 0 + n) rest.1)

  pub none_counted : (u : Unit) (a : List ℕ) → defines u a ≡ false → count_whole u.defined a ≡ 0 → count_defined u a ≡ 0
  none_counted u a e f =
      ap (λ (t : Bool). if count_whole u.defined a == 0 && t then 1 else count_whole u.defined a) e ∙ by (count_whole u.defined a == 0) ∙ f
    where
      by : (t : Bool) → (if t && false then 1 else count_whole u.defined a) ≡ count_whole u.defined a
      by true = refl
      by false = refl

  pub internal_same : (i : ℕ) (u v : Unit) (a b : List ℕ) → SameLinkedUnit i u v → named i a b → is_internal u a ≡ is_internal v b
  internal_same i u v a b h e = ap (λ x. elim x as (λ y. Bool) [ None ↦ false | Some n ↦ n.internal ]) (h.names a b e)

  -- within a unit
  pub own_tests : (i : ℕ) (a b : List ℕ) → named i a b → TestsAlike i a b
  own_tests i a b e d f h = one i a b d.name f.name e h.names
