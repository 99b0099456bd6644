-- Of the configurations that a project admits none has a property, or one is the least that has it: it isn't so that neither is the case.
use Rattle.std.proofs.Common.{◌≡◌, ◌⊎◌, inl, inr, ℕ, zero, suc, ◌+◌, ◌<◌, ◌≤◌, Bool, true, false, List, length, refl, sym, ◌∙◌, subst, arith}
use Rattle.std.proofs.lemmas.Bool.{cases_lt}
use Rattle.cond_formula.specs.Features.{has}
use Rattle.sat_core.specs.Models.{IsLess, AreSame}
use Rattle.project_file.specs.Projects.{PlainProject}
use Rattle.command_projects.specs.Least.{IsAdmitted, Nowhere, Somewhere, IsLeast}

-- two sets that agree below a number, and on it
one_more : (k : ℕ) (on other : ℕ → Bool) → AreSame k on other → on k ≡ other k → AreSame (k + 1) on other
one_more k on other h e = record { same = λ i inside. by i inside (cases_lt i k) }
  where
    by : (i : ℕ) → i < k + 1 → (i < k) ⊎ (k ≤ i) → on i ≡ other i
    by i inside (inl less) = h.same i less
    by i inside (inr more) = let e' : k ≡ i = omega (arith, inside, more) in subst (λ j. on j ≡ other j) e' e

one_less : (k : ℕ) (on other : ℕ → Bool) → AreSame (k + 1) on other → AreSame k on other
one_less k on other h = record { same = λ i inside. h.same i (omega (arith, inside)) }

joined : (k : ℕ) (on middle other : ℕ → Bool) → AreSame k on middle → AreSame k middle other → AreSame k on other
joined k on middle other h g = record { same = λ i inside. h.same i inside ∙ g.same i inside }

module _ (project : PlainProject) (Holds : List Bool → Type 0) where
  -- the least of those that agree with it on the features below this number
  record IsLeastFrom (k : ℕ) (d : List Bool) : Type 0 where
    admitted : IsAdmitted project d
    holds : Holds d
    least : (other : List Bool) → IsAdmitted project other → Holds other → AreSame k (has d) (has other)
        → AreSame (length project.features) (has d) (has other) ⊎ IsLess (length project.features) (has d) (has other)

  -- it agrees with this one below the number
  record HasLeastFrom (k : ℕ) (c : List Bool) : Type 0 where
    config : List Bool
    same : AreSame k (has c) (has config)
    is_least : IsLeastFrom k config

  -- one that agrees with this one below the number, and doesn't have the feature of the number
  record Without (k : ℕ) (c : List Bool) : Type 0 where
    config : List Bool
    admitted : IsAdmitted project config
    holds : Holds config
    same : AreSame k (has c) (has config)
    off : has config k ≡ false

  -- the least that doesn't have the next feature
  off_first : (k : ℕ) → k < length project.features → (c : List Bool) → has c k ≡ false → HasLeastFrom (k + 1) c → HasLeastFrom k c
  off_first k inside c off found = record {
    config = d;
    same = one_less k (has c) (has d) found.same;
    is_least = record { admitted = found.is_least.admitted; holds = found.is_least.holds; least = λ other a h same. by other a h same (has other k) refl };
  }
    where
      d : List Bool
      d = found.config

      d_off : has d k ≡ false
      d_off = sym (found.same.same k (omega arith)) ∙ off

      by : (other : List Bool) → IsAdmitted project other → Holds other → AreSame k (has d) (has other) → (b : Bool) → has other k ≡ b → AreSame (length project.features) (has d) (has other) ⊎ IsLess (length project.features) (has d) (has other)
      by other a h same false e = found.is_least.least other a h (one_more k (has d) (has other) same (d_off ∙ sym e))
      by other a h same true e = inr (record { first = k; within = inside; same_before = same.same; off = d_off; other_on = e })

  -- the least that has it, where none is without it
  on_first : (k : ℕ) (c : List Bool) → (Without k c → ⊥) → HasLeastFrom (k + 1) c → HasLeastFrom k c
  on_first k c none found = record {
    config = d;
    same = one_less k (has c) (has d) found.same;
    is_least = record { admitted = found.is_least.admitted; holds = found.is_least.holds; least = λ other a h same. by other a h same (has d k) (has other k) refl refl };
  }
    where
      d : List Bool
      d = found.config

      from_c : (other : List Bool) → AreSame k (has d) (has other) → AreSame k (has c) (has other)
      from_c other same = joined k (has c) (has d) (has other) (one_less k (has c) (has d) found.same) same

      by : (other : List Bool) → IsAdmitted project other → Holds other → AreSame k (has d) (has other) → (x y : Bool) → has d k ≡ x → has other k ≡ y → AreSame (length project.features) (has d) (has other) ⊎ IsLess (length project.features) (has d) (has other)
      by other a h same x false d_is e = absurd (none (record { config = other; admitted = a; holds = h; same = from_c other same; off = e }))
      by other a h same false true d_is e =
          absurd (none (record { config = d; admitted = found.is_least.admitted; holds = found.is_least.holds; same = one_less k (has c) (has d) found.same; off = d_is }))
      by other a h same true true d_is e = found.is_least.least other a h (one_more k (has d) (has other) same (d_is ∙ sym e))

  as_before : (k : ℕ) (c d : List Bool) → AreSame k (has c) (has d) → HasLeastFrom k d → HasLeastFrom k c
  as_before k c d same found = record { config = found.config; same = joined k (has c) (has d) (has found.config) same found.same; is_least = found.is_least }

  -- feature by feature: without it, where one is without it
  search : (m k : ℕ) → k + m ≡ length project.features → (c : List Bool) → IsAdmitted project c → Holds c → (HasLeastFrom k c → ⊥) → ⊥
  search zero k e c admitted holds none = none (record {
    config = c;
    same = record { same = λ i inside. refl };
    is_least = record {
      admitted = admitted;
      holds = holds;
      least = λ other a h same. inl (record { same = λ i inside. same.same i (omega (arith, inside, e)) });
    };
  })
  search (suc m) k e c admitted holds none =
      search m (k + 1) (omega (arith, e)) c admitted holds
      (λ found. none (on_first k c (λ without.
      search m (k + 1) (omega (arith, e)) without.config without.admitted without.holds
      (λ less. none (as_before k c without.config without.same (off_first k (omega (arith, e)) without.config without.off less)))) found))

  pub somewhere_or_nowhere : (Nowhere project Holds ⊎ Somewhere project Holds → ⊥) → ⊥
  somewhere_or_nowhere none = none (inl (λ c admitted holds. none (inr (record { witness = c; admitted = admitted; holds = holds }))))

  pub least_or_nowhere : (Nowhere project Holds ⊎ ((c : List Bool) × IsLeast project Holds c) → ⊥) → ⊥
  least_or_nowhere none =
      none (inl (λ c admitted holds.
      search (length project.features) 0 (omega arith) c admitted holds
      (λ found. none (inr (
        found.config,
        record {
          admitted = found.is_least.admitted;
          holds = found.is_least.holds;
          least = λ other a h. found.is_least.least other a h (record { same = λ i inside. absurd (omega (arith, inside)) });
        },
      )))))
