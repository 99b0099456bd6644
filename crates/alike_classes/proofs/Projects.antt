-- What a configuration sees of a project, and which configurations are admitted, is so of each project that is alike.
use Rattle.std.proofs.Common.{◌≡◌, ℕ, ◌+◌, Bool, List, [], ◌∷◌, refl, ◌∙◌, ap, subst, if◌then◌else◌}
use Rattle.text_edits.specs.Files.{PlainFile}
use Rattle.cond_formula.specs.Conditions.{value}
use Rattle.c_text.specs.Preprocessing.{Sources}
use Rattle.project_file.specs.Projects.{PlainUnit, PlainProject}
use Rattle.project_file.specs.Laws.{Alike, AreAlike}
use Rattle.plain_pp.specs.Units.{sources_of, file_of}
use Rattle.project_program.specs.Programs.{present_from, present_units}
use Rattle.command_projects.specs.Least.{Nowhere, Somewhere}
use Rattle.command_projects.proofs.Least.{admitted_alike, admitted_back}

module _ (a b : PlainProject) (alike : Alike a b) where
  -- what holds of the sources, of the numbers of the units' files and of the units that are present
  pub seen-alike :
      (files : List PlainFile) (on : ℕ → Bool) (Holds : Sources → (ℕ → ℕ) → List ℕ → Type 0) → Holds (sources_of a files on) (file_of a) (present_units a on)
      → Holds (sources_of b files on) (file_of b) (present_units b on)
  seen-alike files on Holds h =
      let By : List (List ℕ) → List (List ℕ) → Type 0 = λ headers features. let p = record a { headers = headers; features = features } in Holds (sources_of p files on) (file_of p) (present_units a on) in
      subst (Holds (sources_of b files on) (file_of b)) (same-units 0 a.units b.units alike.units)
      (subst (λ features. By b.headers features) alike.features (subst (λ headers. By headers a.features) alike.headers h))
    where
      same-units : (place : ℕ) (us vs : List PlainUnit) → AreAlike us vs → present_from on place us ≡ present_from on place vs
      same-units place [] [] same = refl
      same-units place [] (v ∷ vs) same = absurd same
      same-units place (u ∷ us) [] same = absurd same
      same-units place (u ∷ us) (v ∷ vs) same =
          ap (λ here. if here then place ∷ present_from on (place + 1) us else present_from on (place + 1) us) (same.1 on)
          ∙ ap (λ rest. if value on v.when then place ∷ rest else rest) (same-units (place + 1) us vs same.2)

  -- what holds of the configurations of the one, where it holds of those of the other
  pub nowhere-alike : (Holds Other : List Bool → Type 0) → ((c : List Bool) → Other c → Holds c) → Nowhere a Holds → Nowhere b Other
  nowhere-alike Holds Other back none c admitted other = none c (admitted_back a b alike c admitted) (back c other)

  pub somewhere-alike : (Holds Other : List Bool → Type 0) → ((c : List Bool) → Holds c → Other c) → Somewhere a Holds → Somewhere b Other
  somewhere-alike Holds Other there some = record {
    witness = some.witness;
    admitted = admitted_alike a b alike some.witness some.admitted;
    holds = there some.witness some.holds;
  }
