-- Alternatives of which each holds only where none before it does.
use Rattle.std.proofs.Common.{◌≡◌, ℕ, ◌+◌, ◌<◌, ◌≤◌, if◌then◌else◌, Bool, true, false, not, ◌&&◌, ◌||◌, List, [], ◌∷◌, ◌++◌, append-nil, map, drop, get_or, length, refl, sym, ap, ◌∙◌, arith}
use Rattle.std.proofs.lemmas.List.{drop_all, map-append}
use Rattle.cond_formula.specs.Conditions.{value, condition_of}
use Rattle.cond_formula.specs.declared.formulas.Formula.{Formula}
use Rattle.conditional.specs.declared.entries.Guarded.{Guarded}
use Rattle.conditional.specs.Entries.{Entry, entry_of, entries_of, seen, under, some_holds, Carry, Stands}
use Rattle.pp_lines.specs.declared.expressions.Value.{Value}
use Rattle.cond_expressions.specs.Values.{values_at, value_entry}
use Rattle.cond_expressions.proofs.SeenLaws.{item_of}

seen-append : {P : Type 0} (on : ℕ → Bool) (xs ys : List (Entry P)) → seen on (xs ++ ys) ≡ seen on xs ++ seen on ys
seen-append on [] ys = refl
seen-append {P} on (x ∷ xs) ys = by_test (value on x.when) (seen-append on xs ys) where
  by_test : (t : Bool) → seen on (xs ++ ys) ≡ seen on xs ++ seen on ys →
      (if t then x.what ∷ seen on (xs ++ ys) else seen on (xs ++ ys)) ≡ (if t then x.what ∷ seen on xs else seen on xs) ++ seen on ys
  by_test true rest = ap (λ (l : List P). x.what ∷ l) rest
  by_test false rest = rest

-- one alternative more
pub values_push : (on : ℕ → Bool) (xs longer : List (Formula × Value)) (f : Formula) (v : Value) → longer ≡ xs ++ (f, v) ∷ [] →
    values_at on longer ≡ values_at on xs ++ under (value on (condition_of f)) (v ∷ [])
values_push on xs longer f v is =
    ap (values_at on) is ∙ ap (seen on) (map-append value_entry xs ((f, v) ∷ [])) ∙ seen-append on (map value_entry xs) (map value_entry ((f, v) ∷ []))
    ∙ ap (λ (l : List Value). values_at on xs ++ l) (one (value on (condition_of f))) where
      one : (t : Bool) → (if t then v ∷ [] else []) ≡ under t (v ∷ [])
      one true = refl
      one false = refl

-- at one assignment: the alternatives that are left, whether one held before, and the values that hold so far
pub record SoFar {V : Type 0} (on : ℕ → Bool) (xs rest : List (Entry V)) (e : Bool) (values : List V) : Type 0 where
  pub none : (x : Entry V) (tail : List (Entry V)) → rest ≡ x ∷ tail → e ≡ false → values ≡ []
  pub one : length values ≤ 1
  pub held : (e || some_holds on rest) ≡ some_holds on xs
  pub carry : (v : V) → Carry on v xs → Carry on v rest
  pub stands : (v : V) → Stands on v xs → values ≡ (if e then v ∷ [] else [])

pub starts : {V : Type 0} (on : ℕ → Bool) (xs : List (Entry V)) (e : Bool) (values : List V) → e ≡ false → values ≡ [] → SoFar on xs xs e values
starts on xs e values off empty = record {
  none = λ x tail is was. empty;
  one = rw empty (omega arith);
  held = ap (λ (b : Bool). b || some_holds on xs) off;
  carry = λ v carry. carry;
  stands = λ v stands. rw (off, empty) refl;
}

module _ {V : Type 0} (on : ℕ → Bool) (xs tail : List (Entry V)) (x : Entry V) (values : List V) where
  held_before : SoFar on xs (x ∷ tail) true values → (last w : Bool) → SoFar on xs tail (true || w) (values ++ under (not true && (w || last)) (x.what ∷ []))
  held_before before last w = rw (append-nil values) (record {
    none = λ y more is off. absurd cc;
    one = before.one;
    held = before.held;
    carry = λ v carry. (before.carry v carry).1;
    stands = before.stands;
  })

  holds_now : SoFar on xs (x ∷ tail) false values → (last : Bool) → value on x.when ≡ true → SoFar on xs tail true (values ++ x.what ∷ [])
  holds_now before last is =
      let empty = before.none x tail refl refl in
      let held = rw is at before.held in
      rw empty (record {
        none = λ y more same off. absurd cc;
        one = omega arith;
        held = held;
        carry = λ v carry. (before.carry v carry).1;
        stands = λ v stands. ap (λ (w : V). w ∷ []) ((before.carry v stands.carry).0 (rw is refl));
      })

  not_yet : SoFar on xs (x ∷ tail) false values → value on x.when ≡ false → SoFar on xs tail false (values ++ [])
  not_yet before is =
      let empty = before.none x tail refl refl in
      let held = rw is at before.held in
      rw empty (record {
        none = λ y more same off. refl;
        one = omega arith;
        held = held;
        carry = λ v carry. (before.carry v carry).1;
        stands = λ v stands. refl;
      })

  never : SoFar on xs (x ∷ tail) false values → value on x.when ≡ false → tail ≡ [] → SoFar on xs tail false (values ++ x.what ∷ [])
  never before is ended =
      let empty = before.none x tail refl refl in
      let held = rw is at before.held in
      let nothing = ap (λ (l : List (Entry V)). some_holds on l) ended in
      rw empty (record {
        none = λ y more same off. absurd (let e = sym ended ∙ same in cc);
        one = omega arith;
        held = held;
        carry = λ v carry. (before.carry v carry).1;
        stands = λ v stands. absurd (let t = stands.held in let f = sym held ∙ nothing in cc);
      })

  pub steps : (e last : Bool) → (last ≡ true → tail ≡ []) → SoFar on xs (x ∷ tail) e values →
      SoFar on xs tail (e || value on x.when) (values ++ under (not e && (value on x.when || last)) (x.what ∷ []))
  steps true last ends before = held_before before last (value on x.when)
  steps false last ends before = by_test (value on x.when) last refl ends where
    by_test : (w last : Bool) → value on x.when ≡ w → (last ≡ true → tail ≡ []) → SoFar on xs tail w (values ++ under (w || last) (x.what ∷ []))
    by_test true last is ends = holds_now before last is
    by_test false true is ends = never before is (ends refl)
    by_test false false is ends = not_yet before is

pub all_told : {V : Type 0} (on : ℕ → Bool) (xs rest : List (Entry V)) (e : Bool) (values : List V) → rest ≡ [] → SoFar on xs rest e values → (v : V) → Stands on v xs → values ≡ v ∷ []
all_told {V} on xs rest e values ended so_far v stands = by_test e refl so_far where
  by_test : (b : Bool) → e ≡ b → SoFar on xs rest e values → values ≡ v ∷ []
  by_test true is so = let told = rw is at so.stands v stands in told
  by_test false is so = absurd (let held = rw (is, ended) at so.held in let t = stands.held in cc)

pub ended : {T V : Type 0} (form : T → V) (xs : List (Guarded T)) (i : ℕ) → length xs ≤ i → entries_of form (drop i xs) ≡ []
ended form xs i past = ap (entries_of form) (drop_all i xs past)

-- one alternative more, which is the last or isn't
pub step_at : {T : Type 0} (form : T → Value) (on : ℕ → Bool) (xs : List (Guarded T)) (x : Guarded T) (i : ℕ) (e last later here : Bool) (values longer : List Value) →
    i < length xs → x ≡ get_or xs i x → (last ≡ true → length xs ≤ i + 1) → later ≡ (e || value on (condition_of x.when)) →
    here ≡ (not e && (value on (condition_of x.when) || last)) → longer ≡ values ++ under here (form x.what ∷ []) →
    SoFar on (entries_of form xs) (entries_of form (drop i xs)) e values → SoFar on (entries_of form xs) (entries_of form (drop (i + 1) xs)) later longer
step_at form on xs x i e last later here values longer within is ends is_later is_here is_longer before =
    let found = item_of xs x i within is in
    let before' = rw found at before in
    rw (is_longer, is_here, is_later) (steps on (entries_of form xs) (entries_of form (drop (i + 1) xs)) (entry_of form x) values e last (λ t. ended form xs (i + 1) (ends t)) before')
