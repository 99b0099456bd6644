-- Units that are present have files.
use Rattle.std.proofs.Common.{◌≡◌, ℕ, ◌+◌, ◌<◌, ◌≤◌, Bool, true, false, List, [], ◌∷◌, length, map, All, Contains, ap, ◌∙◌, arith}
use Rattle.std.specs.Prelude.{if◌then◌else◌}
use Rattle.std.specs.List.{AllZip}
use Rattle.std.proofs.lemmas.List.{length-map, length-append}
use Rattle.std.proofs.lemmas.List.Elements.{All-nil, All-cons, All-contains, All-map, All-weaker}
use Rattle.text_edits.specs.Files.{PlainFile}
use Rattle.cond_formula.specs.Conditions.{value}
use Rattle.c_text.specs.Token.{PlainToken}
use Rattle.project_file.specs.Projects.{PlainUnit, PlainProject}
use Rattle.plain_pp.specs.Units.{sources_of, file_of}
use Rattle.project_program.specs.Programs.{present_from, present_units, UnitGives}
use Rattle.renamed_units.specs.Laws.{IsUnitOf}
use Rattle.renamed_products.specs.Products.{IsGiven}
use Rattle.renamed_sources.specs.Projects.{HasItsFiles, present_files}
use Rattle.renamed_sources.specs.Laws.{TreesAreOfSources}

chosen : {X : Type 0} (P : X → Type 0) (b : Bool) (x y : X) → P x → P y → P (if b then x else y)
chosen P true x y a c = a
chosen P false x y a c = c

present_below : (on : ℕ → Bool) (place : ℕ) (units : List PlainUnit) (limit : ℕ) → place + length units ≤ limit → All (λ unit. unit < limit) (present_from on place units)
present_below on place [] limit h = All-nil (λ unit. unit < limit)
present_below on place (unit ∷ units) limit h =
    let behind = present_below on (place + 1) units limit (omega (arith, h)) in
    chosen (All (λ unit. unit < limit)) (value on unit.when) (place ∷ present_from on (place + 1) units) (present_from on (place + 1) units)
    (All-cons (λ unit. unit < limit) place (present_from on (place + 1) units) (omega (arith, h)) behind) behind

module _ (project : PlainProject) (files : List PlainFile) (on : ℕ → Bool) (has : HasItsFiles project files) where
  count : length files ≡ length project.headers + length project.units
  count =
      has.one_each ∙ length-append project.headers (map (λ u. u.file) project.units)
      ∙ ap (λ n. length project.headers + n) (length-map project.units (λ u. u.file))

  unit_at : (unit : ℕ) → unit < length project.units → IsUnitOf (sources_of project files on) (file_of project unit)
  unit_at unit h = record { unit = omega (arith, h, count); headers = omega (arith, count); few = has.few }

  below : All (λ unit. unit < length project.units) (present_units project on)
  below = present_below on 0 project.units (length project.units) (omega arith)

  pub is_unit : (unit : ℕ) → Contains (present_units project on) unit → IsUnitOf (sources_of project files on) (file_of project unit)
  is_unit unit h = unit_at unit (All-contains (λ unit. unit < length project.units) (present_units project on) unit below h)

  pub are_units : All (IsUnitOf (sources_of project files on)) (present_files project on)
  are_units =
      All-map (IsUnitOf (sources_of project files on)) (file_of project) (present_units project on)
      (All-weaker (λ unit. unit < length project.units) (λ unit. IsUnitOf (sources_of project files on) (file_of project unit)) unit_at (present_units project on) below)

-- ---- their tokens

module _ (project : PlainProject) (files : List PlainFile) (on : ℕ → Bool) where
  are_given : (units : List ℕ) (tokens : List (List PlainToken)) → AllZip (UnitGives project files on) units tokens → AllZip (IsGiven (sources_of project files on)) (map (file_of project) units) tokens
  are_given [] [] h = tt
  are_given [] (of_unit ∷ tokens) h = absurd h
  are_given (unit ∷ units) [] h = absurd h
  are_given (unit ∷ units) (of_unit ∷ tokens) h = (h.0, are_given units tokens h.1)

  units_give : (units : List ℕ) (tokens : List (List PlainToken)) → AllZip (IsGiven (sources_of project files on)) (map (file_of project) units) tokens → AllZip (UnitGives project files on) units tokens
  units_give [] [] h = tt
  units_give [] (of_unit ∷ tokens) h = absurd h
  units_give (unit ∷ units) [] h = absurd h
  units_give (unit ∷ units) (of_unit ∷ tokens) h = (h.0, units_give units tokens h.1)

pub trees_of_sources : TreesAreOfSources
trees_of_sources project files on trees = (
  λ are. record { tokens = are.tokens; preprocessed = are_given project files on (present_units project on) are.tokens are.preprocessed; parsed = are.parsed },
  λ are. record { tokens = are.tokens; preprocessed = units_give project files on (present_units project on) are.tokens are.preprocessed; parsed = are.parsed },
)
