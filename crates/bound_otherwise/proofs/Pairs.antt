-- What tokens are declared by, and pairs.
use Rattle.std.proofs.Common.{◌≡◌, ℕ, ◌==◌, Bool, true, false, List, [], ◌∷◌, Contains, refl, sym, ap, subst, ◌∙◌, inl, inr}
use Rattle.std.specs.Prelude.{◌⊎◌, if◌then◌else◌}
use Rattle.std.proofs.lemmas.Bool.{eqb-true, eqb-false}
use Rattle.cond_pairings.specs.Pairs.{Pair}
use Rattle.declared_tokens.specs.Declarations.{declared_among, AreDeclaredAlike, TellsOtherwise}
use Rattle.tied_tokens.proofs.Members.{in_none, in_head, in_tail, in_cases}
use Rattle.told_occurrences.specs.Told.{HaveSame}
use Rattle.bound_otherwise.specs.Otherwise.{TellsPairs}

abbrev pair : ℕ → ℕ → Pair
pair identifier declared_by = record { identifier = identifier; declared_by = declared_by }

declares : (pairs : List Pair) (token by : ℕ) → Contains (declared_among token pairs) by → Contains pairs (pair token by)
declares [] token by h = absurd (in_none by h)
declares (p ∷ rest) token by h = which (p.identifier == token) refl h (λ later. declares rest token by later)
  where
    here : p.identifier ≡ token → (p.declared_by ≡ by) ⊎ Contains (declared_among token rest) by → (Contains (declared_among token rest) by → Contains rest (pair token by)) → Contains (p ∷ rest) (pair token by)
    here same (inl e) later = subst (λ q. Contains (p ∷ rest) q) (ap (λ i. pair i p.declared_by) same ∙ ap (pair token) e) (in_head p rest)
    here same (inr there) later = in_tail p rest (pair token by) (later there)

    which : (b : Bool) → (p.identifier == token) ≡ b → Contains (if b then p.declared_by ∷ declared_among token rest else declared_among token rest) by
        → (Contains (declared_among token rest) by → Contains rest (pair token by)) → Contains (p ∷ rest) (pair token by)
    which true e among later = here (eqb-true p.identifier token e) (in_cases p.declared_by (declared_among token rest) by among) later
    which false e among later = in_tail p rest (pair token by) (later among)

is-declared : (pairs : List Pair) (token by : ℕ) → Contains pairs (pair token by) → Contains (declared_among token pairs) by
is-declared [] token by h = absurd (in_none (pair token by) h)
is-declared (p ∷ rest) token by h = which (p.identifier == token) refl (in_cases p rest (pair token by) h) (λ later. is-declared rest token by later)
  where
    which : (b : Bool) → (p.identifier == token) ≡ b → (p ≡ pair token by) ⊎ Contains rest (pair token by) → (Contains rest (pair token by) → Contains (declared_among token rest) by)
        → Contains (if b then p.declared_by ∷ declared_among token rest else declared_among token rest) by
    which true e (inl same) later = subst (λ n. Contains (p.declared_by ∷ declared_among token rest) n) (ap (λ (q : Pair). q.declared_by) same) (in_head p.declared_by (declared_among token rest))
    which true e (inr there) later = in_tail p.declared_by (declared_among token rest) by (later there)
    which false e (inl same) later = absurd (eqb-false p.identifier token e (ap (λ (q : Pair). q.identifier) same))
    which false e (inr there) later = later there

module _ (a b : ℕ → List ℕ) (before after : List Pair) (a-is : (token : ℕ) → a token ≡ declared_among token before) (b-is : (token : ℕ) → b token ≡ declared_among token after) where
  same-pairs : AreDeclaredAlike a b → HaveSame before after
  same-pairs alike p = (
    λ h. declares after p.identifier p.declared_by (subst (λ l. Contains l p.declared_by) (b-is p.identifier)
        ((alike p.identifier p.declared_by).0 (subst (λ l. Contains l p.declared_by) (sym (a-is p.identifier)) (is-declared before p.identifier p.declared_by h)))),
    λ h. declares before p.identifier p.declared_by (subst (λ l. Contains l p.declared_by) (a-is p.identifier)
        ((alike p.identifier p.declared_by).1 (subst (λ l. Contains l p.declared_by) (sym (b-is p.identifier)) (is-declared after p.identifier p.declared_by h)))),
  )

  alike-tokens : HaveSame before after → AreDeclaredAlike a b
  alike-tokens same token by = (
    λ h. subst (λ l. Contains l by) (sym (b-is token)) (is-declared after token by ((same (pair token by)).0 (declares before token by (subst (λ l. Contains l by) (a-is token) h)))),
    λ h. subst (λ l. Contains l by) (sym (a-is token)) (is-declared before token by ((same (pair token by)).1 (declares after token by (subst (λ l. Contains l by) (b-is token) h)))),
  )

  -- tokens tell of the pairs that declare them
  pub tells-pairs : (v : Bool) → TellsOtherwise v a b → TellsPairs v before after
  tells-pairs true h = λ same. h (alike-tokens same)
  tells-pairs false h = same-pairs h
