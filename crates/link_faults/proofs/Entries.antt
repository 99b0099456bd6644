-- Definitions and declarations, one entry more at a time.
use Rattle.std.proofs.Common.{◌≡◌, ℕ, zero, suc, ◌+◌, nat_le, Bool, true, false, not, ◌&&◌, ◌||◌, ◌==◌, List, [], ◌∷◌, map, refl, sym, ap, ap₂, ◌∙◌, IsTrue, arith}
use Rattle.std.specs.Prelude.{Option, Some, None, option_map, if◌then◌else◌}
use Rattle.std.specs.List.{list_any}
use Rattle.std.specs.Str.{bytes_eq}
use Rattle.std.proofs.lemmas.Bool.Decides.{nat_tests}
use Rattle.cond_formula.specs.Conditions.{condition_of, value}
use Rattle.conditional.specs.Entries.{Entry, seen, entries_of, some_holds, Carry, Sees}
use Rattle.conditional.specs.declared.entries.Guarded.{Guarded}
use Rattle.core_meaning.specs.Entities.{Signature}
use Rattle.core_meaning.specs.UnitNames.{Defined}
use Rattle.core_meaning.specs.Linking.{Unit, is_tentative, count_whole, count_defined, defines}
use Rattle.type_tables.specs.Tables.{FileName}
use Rattle.type_tables.specs.Definitions.{definition_form}
use Rattle.type_tables.specs.declared.definitions.Definition.{Definition}
use Rattle.link_faults.specs.declared.several.Several.{Several}
use Rattle.link_faults.specs.Several.{Count}
use Rattle.link_faults.specs.SeenUnits.{definition_of, name_in}
use Rattle.link_faults.specs.Measures.{whole_in, defined_in, some_so, is_so}
use Rattle.link_faults.proofs.SeenLaws.{tentative_seen}
use Rattle.link_faults.proofs.Loops.{or_none}

module _ (on : ℕ → Bool) (name : List ℕ) where
  pub whole_split : (x : Guarded Definition) (xs : List (Guarded Definition)) → whole_in on name (x ∷ xs) ≡ whole_in on name (x ∷ []) + whole_in on name xs
  whole_split x xs = by (value on (condition_of x.when))
    where
      by : (b : Bool) → count_whole (map definition_of (if b then definition_form x.what ∷ seen on (entries_of definition_form xs) else seen on (entries_of definition_form xs))) name
          ≡ count_whole (map definition_of (if b then definition_form x.what ∷ [] else [])) name + whole_in on name xs
      by true = omega arith
      by false = omega arith

  pub defined_split : (x : Guarded Definition) (xs : List (Guarded Definition)) → defined_in on name (x ∷ xs) ≡ (defined_in on name (x ∷ []) || defined_in on name xs)
  defined_split x xs = by (value on (condition_of x.when))
    where
      by : (b : Bool) → list_any (λ d. bytes_eq d.name name) (map definition_of (if b then definition_form x.what ∷ seen on (entries_of definition_form xs) else seen on (entries_of definition_form xs)))
          ≡ (list_any (λ d. bytes_eq d.name name) (map definition_of (if b then definition_form x.what ∷ [] else [])) || defined_in on name xs)
      by true = sym (ap (λ b. b || defined_in on name xs) (or_none (bytes_eq x.what.name.items name)))
      by false = refl

  pub whole_one : (x : Guarded Definition) → (bytes_eq x.what.name.items name && not x.what.tentative) ≡ true → whole_in on name (x ∷ []) ≡ (if value on (condition_of x.when) then 1 else 0)
  whole_one x h = by (value on (condition_of x.when))
    where
      by : (b : Bool) → count_whole (map definition_of (if b then definition_form x.what ∷ [] else [])) name ≡ (if b then 1 else 0)
      by true =
          ap (λ (t : Bool). (if bytes_eq x.what.name.items name && not t then 1 else 0) + 0) (sym (tentative_seen x.what.tentative))
          ∙ ap (λ (t : Bool). (if t then 1 else 0) + 0) h
      by false = refl

-- ---- all definitions of a name

pub whole_undefined : (ds : List Defined) (name : List ℕ) → list_any (λ d. bytes_eq d.name name) ds ≡ false → count_whole ds name ≡ 0
whole_undefined [] name h = refl
whole_undefined (d ∷ ds) name h = by (bytes_eq d.name name) (list_any (λ d. bytes_eq d.name name) ds) (whole_undefined ds name) h
  where
    by : (a b : Bool) → (b ≡ false → count_whole ds name ≡ 0) → (a || b) ≡ false → (if a && not (is_tentative d.body) then 1 else 0) + count_whole ds name ≡ 0
    by true b rest e = absurd cc
    by false b rest e = let z : count_whole ds name ≡ 0 = rest e in omega (arith, z)

positive : (n : ℕ) → (suc n == 0) ≡ false
positive n = grind (arith, nat_tests)

one_within : (n : ℕ) → true ≡ nat_le 1 (suc n)
one_within n = grind (arith, nat_tests)

one_of : (w : ℕ) (d : Bool) → (d ≡ false → w ≡ 0) → d ≡ nat_le 1 (if w == 0 && d then 1 else w)
one_of zero true h = refl
one_of zero false h = refl
one_of (suc n) true h = rw (positive n) (one_within n)
one_of (suc n) false h = let e : suc n ≡ 0 = h refl in absurd (omega (arith, e))

two_of : (w : ℕ) (d : Bool) → nat_le 2 w ≡ nat_le 2 (if w == 0 && d then 1 else w)
two_of zero true = refl
two_of zero false = refl
two_of (suc n) d = rw (positive n) refl

pub counted_defined : (on : ℕ → Bool) (whole s : Several) (unit : Unit) (name : List ℕ) → value on (condition_of s.one) ≡ defines unit name
    → Count on whole (count_whole unit.defined name) → value on (condition_of s.two) ≡ value on (condition_of whole.two) → Count on s (count_defined unit name)
counted_defined on whole s unit name one h two = record {
  one = one ∙ one_of (count_whole unit.defined name) (defines unit name) (whole_undefined unit.defined name);
  two = two ∙ h.two ∙ two_of (count_whole unit.defined name) (defines unit name);
}

-- ---- what a declaration is

module _ (test : FileName → Bool) (on : ℕ → Bool) where
  pub so_split : (e : Entry FileName) (es : List (Entry FileName)) → some_so test on (e ∷ es) ≡ (some_so test on (e ∷ []) || some_so test on es)
  so_split e es = sym (ap (λ b. b || some_so test on es) (or_none (value on e.when && test e.what)))

  none_so : (es : List (Entry FileName)) → some_holds on es ≡ false → some_so test on es ≡ false
  none_so [] h = refl
  none_so (e ∷ es) h = by (value on e.when) (none_so es) h
    where
      by : (b : Bool) → (some_holds on es ≡ false → some_so test on es ≡ false) → (b || some_holds on es) ≡ false → (b && test e.what || some_so test on es) ≡ false
      by true rest h = absurd cc
      by false rest h = rest h

  carried_so : (v : FileName) (es : List (Entry FileName)) → Carry on v es → some_so test on es ≡ (some_holds on es && test v)
  carried_so v [] h = refl
  carried_so v (e ∷ es) h = by (value on e.when) (some_holds on es) (test v) (λ t. ap test (h.0 t)) (carried_so v es h.1)
    where
      by : (b held t : Bool) → (IsTrue b → test e.what ≡ t) → some_so test on es ≡ (held && t) → (b && test e.what || some_so test on es) ≡ ((b || held) && t)
      by true held t same rest = ap₂ (λ (x y : Bool). x || y) (same refl) rest ∙ absorbed held t
        where
          absorbed : (held t : Bool) → (t || held && t) ≡ t
          absorbed held true = refl
          absorbed true false = refl
          absorbed false false = refl
      by false held t same rest = rest

  pub some_is : (v : Option FileName) (es : List (Entry FileName)) → Sees on v es → some_so test on es ≡ is_so test v
  some_is None es h = none_so es h
  some_is (Some v) es h = carried_so v es h.carry ∙ ap (λ b. b && test v) h.held

pub internal_is : (signatures : ℕ → Signature) (v : Option FileName)
    → is_so (λ n. n.internal) v ≡ elim (option_map (name_in signatures) v) as (λ x. Bool) [ None ↦ false | Some n ↦ n.internal ]
internal_is signatures None = refl
internal_is signatures (Some n) = refl
