-- Units that are present, gone through one by one.
use Rattle.std.proofs.Common.{◌≡◌, ℕ, ◌+◌, ◌<◌, ◌≤◌, Bool, true, false, List, [], ◌∷◌, ◌++◌, map, length, take, get_or, ap, ◌∙◌, arith}
use Rattle.std.specs.Prelude.{if◌then◌else◌}
use Rattle.std.proofs.lemmas.List.{length-map, length-append, length-take-le, take_all}
use Rattle.text_edits.specs.Files.{PlainFile}
use Rattle.cond_formula.specs.Conditions.{value}
use Rattle.project_file.specs.declared.projects.Unit.{Unit as SourceUnit}
use Rattle.project_file.specs.Projects.{PlainUnit, PlainProject}
use Rattle.project_file.specs.View.{unit_view}
use Rattle.project_store.specs.Reads.{names_of}
use Rattle.project_program.specs.Programs.{present_from}
use Rattle.tied_tokens.proofs.Members.{made_more}

-- the units are files of the project
pub no-more-units : (project : PlainProject) (files : List PlainFile) → map (λ f. f.name) files ≡ names_of project → length project.units ≤ length files
no-more-units project files named =
    let all : length (map (λ (f : PlainFile). f.name) files) ≡ length (names_of project) = ap length named in
    let mapped = length-map files (λ (f : PlainFile). f.name) in
    let both = length-append project.headers (map (λ (u : PlainUnit). u.file) project.units) in
    let units = length-map project.units (λ (u : PlainUnit). u.file) in omega (arith, all, mapped, both, units)

module _ (on : ℕ → Bool) where
  -- the unit at this place, if it is present
  abbrev pub if-present : PlainUnit → ℕ → List ℕ
  if-present unit place = if value on unit.when then place ∷ [] else []

  present-more : (place : ℕ) (units : List PlainUnit) (unit : PlainUnit) → present_from on place (units ++ unit ∷ []) ≡ present_from on place units ++ if-present unit (place + length units)
  present-more place [] unit = ap (λ n. if-present unit n) (let e : place ≡ place + 0 = omega arith in e)
  present-more place (first ∷ units) unit = by (value on first.when) (present-more (place + 1) units unit ∙ ap (λ n. present_from on (place + 1) units ++ if-present unit n) (omega arith))
    where
      by : (b : Bool) → present_from on (place + 1) (units ++ unit ∷ []) ≡ present_from on (place + 1) units ++ if-present unit (place + length (first ∷ units))
          → (if b then place ∷ present_from on (place + 1) (units ++ unit ∷ []) else present_from on (place + 1) (units ++ unit ∷ []))
          ≡ (if b then place ∷ present_from on (place + 1) units else present_from on (place + 1) units) ++ if-present unit (place + length (first ∷ units))
      by true same = ap (λ ns. place ∷ ns) same
      by false same = same

  pub next-present : (units : List SourceUnit) (k : ℕ) (unit : SourceUnit) → k < length units → unit ≡ get_or units k unit → present_from on 0 (map unit_view (take (k + 1) units)) ≡ present_from on 0 (map unit_view (take k units)) ++ if-present (unit_view unit) k
  next-present units k unit inside is =
      let size : 0 + length (map unit_view (take k units)) ≡ k =
      (let mapped = length-map (take k units) unit_view in let taken = length-take-le k units (omega (arith, inside)) in omega (arith, mapped, taken)) in
      ap (present_from on 0) (made_more unit_view units k unit inside is)
      ∙ (present-more 0 (map unit_view (take k units)) (unit_view unit) ∙ ap (λ n. present_from on 0 (map unit_view (take k units)) ++ if-present (unit_view unit) n) size)

  pub all-present : (units : List SourceUnit) (k : ℕ) → length units ≤ k → present_from on 0 (map unit_view (take k units)) ≡ present_from on 0 (map unit_view units)
  all-present units k past = ap (λ us. present_from on 0 (map unit_view us)) (take_all k units past)
