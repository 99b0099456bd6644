-- Each unit that was taken is present where the project's is.
use Rattle.std.proofs.Common.{◌≡◌, ℕ, Bool, List, [], ◌∷◌, ◌++◌, map, refl, sym, ap, ◌∙◌}
use Rattle.std.proofs.lemmas.List.{map-append, append_assoc, append-nil}
use Rattle.cond_formula.specs.Conditions.{condition_of, value}
use Rattle.project_file.specs.declared.projects.Unit.{Unit}
use Rattle.cond_types.specs.declared.units.TypedUnit.{TypedUnit}

module _ (on : ℕ → Bool) where
  abbrev pub taken_at : List TypedUnit → List Bool
  taken_at units = map (λ (u : TypedUnit). value on (condition_of u.when)) units

  abbrev pub units_at : List Unit → List Bool
  units_at units = map (λ (u : Unit). value on (condition_of u.when)) units

  -- those that were taken, and those that are left
  abbrev pub SoPresent : List Unit → List TypedUnit → List Unit → Type 0
  SoPresent units taken rest = taken_at taken ++ units_at rest ≡ units_at units

  pub none_present : (units rest : List Unit) (taken : List TypedUnit) → taken ≡ [] → rest ≡ units → SoPresent units taken rest
  none_present units rest taken e f = rw (e, f) refl

  pub one_more_present :
      (units before rest : List Unit) (unit : Unit) (taken new : List TypedUnit) (left : TypedUnit) → before ≡ unit ∷ rest → new ≡ taken ++ left ∷ []
      → value on (condition_of left.when) ≡ value on (condition_of unit.when) → SoPresent units taken before → SoPresent units new rest
  one_more_present units before rest unit taken new left e f here h =
      ap (λ l. taken_at l ++ units_at rest) f ∙ ap (λ l. l ++ units_at rest) (map-append (λ (u : TypedUnit). value on (condition_of u.when)) taken (left ∷ []))
      ∙ append_assoc (taken_at taken) (value on (condition_of left.when) ∷ []) (units_at rest)
      ∙ ap (λ b. taken_at taken ++ b ∷ units_at rest) here ∙ sym (ap (λ l. taken_at taken ++ units_at l) e) ∙ h

  pub all_present : (units rest : List Unit) (taken : List TypedUnit) → rest ≡ [] → SoPresent units taken rest → taken_at taken ≡ units_at units
  all_present units rest taken e h = sym (append-nil (taken_at taken)) ∙ sym (ap (λ l. taken_at taken ++ units_at l) e) ∙ h
