-- How many tokens aren't found yet.
use Rattle.std.proofs.Common.{◌≡◌, ℕ, ◌+◌, ◌≤◌, ◌==◌, Bool, true, false, ◌&&◌, ◌||◌, List, [], ◌∷◌, ◌++◌, inl, inr, refl, sym, ap, subst, ◌∙◌, eqb-true, arith}
use Rattle.std.specs.Prelude.{◌⊎◌, Contains, IsTrue, if◌then◌else◌}
use Rattle.std.specs.List.{list_any}
use Rattle.std.proofs.lemmas.Bool.{and_parts}
use Rattle.std.proofs.lemmas.Bool.Decides.{nat_tests}
use Rattle.program_occurrences.specs.Classes.{PlainFileToken}
use Rattle.tied_tokens.specs.Search.{same_token, missing}
use Rattle.tied_tokens.proofs.Members.{in_none, in_tail, in_cases}
use Rattle.tied_tokens.proofs.Order.{one_token}

same_is : (a b : PlainFileToken) → IsTrue (same_token a b) → a ≡ b
same_is a b h =
    let outer = and_parts (a.file == b.file) (a.span.start == b.span.start && a.span.end == b.span.end) h in
    let inner = and_parts (a.span.start == b.span.start) (a.span.end == b.span.end) outer.1 in
    one_token a b (eqb-true a.file b.file outer.0) (eqb-true a.span.start b.span.start inner.0) (eqb-true a.span.end b.span.end inner.1)

flat_same : (f s e : ℕ) → (f == f && (s == s && e == e)) ≡ true
flat_same f s e = grind (arith, nat_tests)

same_itself : (a : PlainFileToken) → IsTrue (same_token a a)
same_itself a = flat_same a.file a.span.start a.span.end

any_is : (token : PlainFileToken) (found : List PlainFileToken) → IsTrue (list_any (same_token token) found) → Contains found token
any_is token [] h = absurd (let no : ◌≡◌ {A = Bool} false true = h in cc)
any_is token (x ∷ xs) h = by (same_token token x) refl (λ k. any_is token xs k) h
  where
    by :
        (b : Bool) → same_token token x ≡ b → (IsTrue (list_any (same_token token) xs) → Contains xs token)
        → IsTrue (b || list_any (same_token token) xs) → Contains (x ∷ xs) token
    by true e behind h = (0, omega arith, sym (same_is token x e))
    by false e behind h = in_tail x xs token (behind h)

-- more found, fewer missing
module _ (old : List PlainFileToken) (token : PlainFileToken) where
  any_more : (t : PlainFileToken) (xs : List PlainFileToken) → list_any (same_token t) (xs ++ token ∷ []) ≡ (list_any (same_token t) xs || same_token t token)
  any_more t [] = or_false (same_token t token)
    where
      or_false : (b : Bool) → (b || false) ≡ b
      or_false true = refl
      or_false false = refl
  any_more t (x ∷ xs) = ap (λ b. same_token t x || b) (any_more t xs) ∙ regroup (same_token t x) (list_any (same_token t) xs) (same_token t token)
    where
      regroup : (a b c : Bool) → (a || (b || c)) ≡ ((a || b) || c)
      regroup true b c = refl
      regroup false b c = refl

  one_missing : (a b : Bool) → (if a || b then 0 else 1) ≤ (if a then 0 else 1)
  one_missing true b = omega arith
  one_missing false true = omega arith
  one_missing false false = omega arith

  missing_le : (all : List PlainFileToken) → missing (old ++ token ∷ []) all ≤ missing old all
  missing_le [] = omega arith
  missing_le (t ∷ ts) =
      let rest = missing_le ts in
      let one = one_missing (list_any (same_token t) old) (same_token t token) in
      rw (any_more t old) (omega arith)

  not_missing : (a b : Bool) → (IsTrue a → ⊥) → IsTrue b → (if a || b then 0 else 1) + 1 ≤ (if a then 0 else 1)
  not_missing true b none same = absurd (none refl)
  not_missing false true none same = omega arith
  not_missing false false none same = absurd cc

  pub missing_less : (all : List PlainFileToken) → (Contains old token → ⊥) → Contains all token → missing (old ++ token ∷ []) all + 1 ≤ missing old all
  missing_less [] fresh h = absurd (in_none token h)
  missing_less (t ∷ ts) fresh h = by (in_cases t ts token h) (λ k. missing_less ts fresh k)
    where
      by : (t ≡ token) ⊎ Contains ts token → (Contains ts token → missing (old ++ token ∷ []) ts + 1 ≤ missing old ts)
          → missing (old ++ token ∷ []) (t ∷ ts) + 1 ≤ missing old (t ∷ ts)
      by (inl e) behind =
          let rest = missing_le ts in
          let none = λ (h : IsTrue (list_any (same_token t) old)). fresh (subst (Contains old) e (any_is t old h)) in
          let one = not_missing (list_any (same_token t) old) (same_token t token) none (subst (λ x. IsTrue (same_token t x)) e (same_itself t)) in
          rw (any_more t old) (omega arith)
      by (inr k) behind =
          let rest = behind k in
          let one = one_missing (list_any (same_token t) old) (same_token t token) in
          rw (any_more t old) (omega arith)
