-- Of two configurations that are least, neither is less.
use Rattle.std.proofs.Common.{◌≡◌, ◌⊎◌, inl, inr, ℕ, ◌<◌, ◌≤◌, Bool, true, false, List, length, sym, ◌∙◌, ap, subst, arith, IsTrue}
use Rattle.std.proofs.lemmas.Bool.{cases_lt}
use mathlib.Core.Path.{fun_ext}
use Rattle.cond_formula.specs.Features.{has}
use Rattle.sat_core.specs.Models.{IsLess, AreSame}
use Rattle.project_file.specs.Projects.{PlainProject}
use Rattle.project_file.specs.Laws.{Alike}
use Rattle.command_projects.specs.Least.{IsAdmitted, IsLeast}

apart : (a b : Bool) → a ≡ false → b ≡ true → a ≡ b → ⊥
apart a b p q e = let f : ◌≡◌ {A = Bool} false true = sym p ∙ (e ∙ q) in absurd cc

not_less_both : (features : ℕ) (on other : ℕ → Bool) → IsLess features on other → IsLess features other on → ⊥
not_less_both features on other h k =
    elim (cases_lt h.first k.first) [
      | inl less ↦ apart (on h.first) (other h.first) h.off h.other_on (sym (k.same_before h.first less))
      | inr more ↦ elim (cases_lt k.first h.first) [
        | inl less ↦ apart (other k.first) (on k.first) k.off k.other_on (sym (h.same_before k.first less))
        | inr most ↦ let same : h.first ≡ k.first = omega (arith, more, most) in apart (other k.first) (other h.first) k.off h.other_on (ap other (sym same))
      ]
    ]

same_or_same : (features : ℕ) (on other : ℕ → Bool) → AreSame features on other ⊎ IsLess features on other → AreSame features other on ⊎ IsLess features other on → (number : ℕ) → number < features → on number ≡ other number
same_or_same features on other (inl h) k number less = h.same number less
same_or_same features on other (inr h) (inl k) number less = sym (k.same number less)
same_or_same features on other (inr h) (inr k) number less = absurd (not_less_both features on other h k)

-- two sets of features of which each is less than the other or agrees with it, and that have none beyond, are one
pub one_set : (features : ℕ) (on other : ℕ → Bool) → ((number : ℕ) → features ≤ number → on number ≡ false) → ((number : ℕ) → features ≤ number → other number ≡ false)
    → AreSame features on other ⊎ IsLess features on other → AreSame features other on ⊎ IsLess features other on → on ≡ other
one_set features on other within within' h k = fun_ext (λ number. by number (cases_lt number features))
  where
    by : (number : ℕ) → (number < features) ⊎ (features ≤ number) → on number ≡ other number
    by number (inl less) = same_or_same features on other h k number less
    by number (inr more) = within number more ∙ sym (within' number more)

-- what one reading of a project admits, another does
module _ (a b : PlainProject) (alike : Alike a b) where
  pub admitted_alike : (c : List Bool) → IsAdmitted a c → IsAdmitted b c
  admitted_alike c h = record {
    within = subst (λ (names : List (List ℕ)). (feature : ℕ) → length names ≤ feature → has c feature ≡ false) alike.features h.within;
    admitted = subst IsTrue (alike.model (has c)) h.admitted;
  }

  pub admitted_back : (c : List Bool) → IsAdmitted b c → IsAdmitted a c
  admitted_back c h = record {
    within = subst (λ (names : List (List ℕ)). (feature : ℕ) → length names ≤ feature → has c feature ≡ false) (sym alike.features) h.within;
    admitted = subst IsTrue (sym (alike.model (has c))) h.admitted;
  }

  -- a configuration that is least for one reading, and one that is for the other
  pub one_least : (P Q : List Bool → Type 0) (c d : List Bool) → ((x : List Bool) → P x → Q x) → ((x : List Bool) → Q x → P x)
      → IsLeast a P c → IsLeast b Q d → has c ≡ has d
  one_least P Q c d there back h k =
      let same : length a.features ≡ length b.features = ap length alike.features in
      one_set (length a.features) (has c) (has d) h.admitted.within (subst (λ n. (number : ℕ) → n ≤ number → has d number ≡ false) (sym same) k.admitted.within)
      (h.least d (admitted_back d k.admitted) (back d k.holds))
      (subst (λ n. AreSame n (has d) (has c) ⊎ IsLess n (has d) (has c)) (sym same) (k.least c (admitted_alike c h.admitted) (there c h.holds)))
