-- Declarations that are compared, and sorts that don't agree.
use Rattle.std.proofs.Common.{◌≡◌, inl, inr, ℕ, ◌<◌, Bool, true, false, not, ◌&&◌, ◌||◌, List, [], ◌∷◌, refl, sym, ap, ◌∙◌, subst, arith}
use Rattle.std.specs.Prelude.{◌⊎◌, ◌↔◌, Option, Some, None, IsTrue}
use Rattle.std.specs.List.{list_any, Contains}
use Rattle.std.proofs.lemmas.Bool.{false≢true}
use Rattle.std.proofs.lemmas.List.Elements.{Contains-append_left, Contains-append_right, Contains-push, Contains-push_cases, Contains-append_cases}
use Rattle.cond_formula.specs.Conditions.{condition_of, value}
use Rattle.conditional.specs.declared.entries.Guarded.{Guarded}
use Rattle.c_types.specs.Tags.{PlainTag}
use Rattle.core_meaning.specs.Entities.{Sort}
use Rattle.core_meaning.specs.Linking.{SortsAgree}
use Rattle.type_tables.specs.declared.tables.Tables.{Tables}
use Rattle.link_faults.specs.declared.gathered.Declared.{Declared}
use Rattle.link_faults.specs.Apart.{SomeAreApart}
use Rattle.link_faults.specs.Gathered.{is_sort_so, declared_sort, some_declared, are_apart}
use Rattle.link_faults.proofs.Walks.{any_same, any_both}

-- ---- members of lists

pub in_head : {X : Type 0} (x : X) (xs : List X) → Contains (x ∷ xs) x
in_head x xs = Contains-append_left (x ∷ []) xs x (Contains-push [] x)

pub in_tail : {X : Type 0} (y : X) (xs : List X) (x : X) → Contains xs x → Contains (y ∷ xs) x
in_tail y xs x h = Contains-append_right (y ∷ []) xs x h

pub in_none : {X : Type 0} (x : X) → Contains [] x → ⊥
in_none x h = let low : h.0 < 0 = h.1 in absurd (omega (arith, low))

pub in_cases : {X : Type 0} (y : X) (xs : List X) (x : X) → Contains (y ∷ xs) x → (y ≡ x) ⊎ Contains xs x
in_cases y xs x h = first (Contains-append_cases (y ∷ []) xs x h)
  where
    second : Contains [] x ⊎ (y ≡ x) → (y ≡ x) ⊎ Contains xs x
    second (inl h) = absurd (in_none x h)
    second (inr e) = inl e

    first : Contains (y ∷ []) x ⊎ Contains xs x → (y ≡ x) ⊎ Contains xs x
    first (inl h) = second (Contains-push_cases [] y x h)
    first (inr h) = inr h

-- ---- sorts that are so

module _ (test : Sort → Bool) where
  pub some_found : (sorts : List (Option Sort)) → IsTrue (list_any (is_sort_so test) sorts) → (s : Sort) × Contains sorts (Some s) × IsTrue (test s)
  some_found [] h = absurd (false≢true h)
  some_found (None ∷ rest) h = let f = some_found rest h in (f.0, in_tail None rest (Some f.0) f.1, f.2)
  some_found (Some s ∷ rest) h = by (test s) refl (some_found rest) h
    where
      by : (b : Bool) → test s ≡ b → (IsTrue (list_any (is_sort_so test) rest) → (r : Sort) × Contains rest (Some r) × IsTrue (test r))
          → IsTrue (b || list_any (is_sort_so test) rest) → (r : Sort) × Contains (Some s ∷ rest) (Some r) × IsTrue (test r)
      by true e found h = (s, in_head (Some s) rest, e)
      by false e found h = let f = found h in (f.0, in_tail (Some s) rest (Some f.0) f.1, f.2)

  or_true : (a b : Bool) → IsTrue b → IsTrue (a || b)
  or_true true b h = refl
  or_true false b h = h

  pub some_so : (sorts : List (Option Sort)) (s : Sort) → Contains sorts (Some s) → IsTrue (test s) → IsTrue (list_any (is_sort_so test) sorts)
  some_so [] s h t = absurd (in_none (Some s) h)
  some_so (o ∷ rest) s h t = by (in_cases o rest (Some s) h) (λ k. some_so rest s k t)
    where
      by : (o ≡ Some s) ⊎ Contains rest (Some s) → (Contains rest (Some s) → IsTrue (list_any (is_sort_so test) rest)) → IsTrue (is_sort_so test o || list_any (is_sort_so test) rest)
      by (inl e) so = subst (λ x. IsTrue (is_sort_so test x || list_any (is_sort_so test) rest)) (sym e) (subst (λ b. IsTrue (b || list_any (is_sort_so test) rest)) (sym t) refl)
      by (inr h) so = or_true (is_sort_so test o) (list_any (is_sort_so test) rest) (so h)

-- ---- sorts that don't agree

-- two of these don't agree, as a test says it
abbrev pub some_apart : (Sort → Sort → Bool) → List (Option Sort) → Bool
some_apart agree sorts = list_any (is_sort_so (λ a. list_any (is_sort_so (λ b. not (agree a b))) sorts)) sorts

module _ (on : ℕ → Bool) (tables : Tables) (agree : Sort → Sort → Bool) (all : List (Guarded Declared)) (sorts : List (Option Sort))
    (gathered : (test : Sort → Bool) → some_declared on tables test all ≡ list_any (is_sort_so test) sorts) where
  one_is : (a : Guarded Declared) → list_any (are_apart on tables agree a) all
      ≡ (value on (condition_of a.when) && list_any (is_sort_so (λ s. not (agree (declared_sort on tables a.what) s))) sorts)
  one_is a =
      any_both (value on (condition_of a.when)) (λ b. value on (condition_of b.when) && not (agree (declared_sort on tables a.what) (declared_sort on tables b.what))) all
      ∙ ap (λ b. value on (condition_of a.when) && b) (gathered (λ s. not (agree (declared_sort on tables a.what) s)))

  pub some_apart_is : list_any (λ a. list_any (are_apart on tables agree a) all) all ≡ some_apart agree sorts
  some_apart_is =
      any_same (λ a. list_any (are_apart on tables agree a) all)
      (λ a. value on (condition_of a.when) && list_any (is_sort_so (λ s. not (agree (declared_sort on tables a.what) s))) sorts) one_is all
      ∙ gathered (λ r. list_any (is_sort_so (λ s. not (agree r s))) sorts)

module _ (tags : List PlainTag) (agree : Sort → Sort → Bool) (told : (a b : Sort) → IsTrue (agree a b) ↔ SortsAgree tags a b) where
  apart_by : (a b : Sort) (t : Bool) → agree a b ≡ t → IsTrue (not t) → SortsAgree tags a b → ⊥
  apart_by a b true e h s = absurd (false≢true h)
  apart_by a b false e h s = absurd (false≢true (sym e ∙ (told a b).1 s))

  not_by : (a b : Sort) (t : Bool) → agree a b ≡ t → (SortsAgree tags a b → ⊥) → IsTrue (not t)
  not_by a b true e h = absurd (h ((told a b).0 e))
  not_by a b false e h = refl

  pub apart_told : (sorts : List (Option Sort)) → IsTrue (some_apart agree sorts) ↔ SomeAreApart tags sorts
  apart_told sorts = (
    λ h.
        let one = some_found (λ a. list_any (is_sort_so (λ b. not (agree a b))) sorts) sorts h in
        let other = some_found (λ b. not (agree one.0 b)) sorts one.2 in
        record {
          first = one.0;
          second = other.0;
          declares_first = one.1;
          declares_second = other.1;
          apart = apart_by one.0 other.0 (agree one.0 other.0) refl other.2;
        },
    λ h. some_so (λ a. list_any (is_sort_so (λ b. not (agree a b))) sorts) sorts h.first h.declares_first
        (some_so (λ b. not (agree h.first b)) sorts h.second h.declares_second (not_by h.first h.second (agree h.first h.second) refl h.apart)),
  )
