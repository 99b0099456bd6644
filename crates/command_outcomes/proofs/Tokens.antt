-- `tokens` comes to something.
use Rattle.std.proofs.Common.{◌≡◌, inl, inr, ℕ, suc, ◌+◌, ◌<◌, Bool, true, false, List, [], ◌∷◌, length, map, Some, refl, ap, ◌∙◌, arith}
use Rattle.std.specs.Prelude.{Option, None, if◌then◌else◌}
use Rattle.std.specs.Str.{bytes_eq}
use Rattle.std.proofs.lemmas.List.{length-map, length-append}
use Rattle.text_edits.specs.Files.{PlainFile, Lookup}
use Rattle.cond_formula.specs.Conditions.{value}
use Rattle.c_text.specs.Preprocessing.{Sources, Outcome, gives, is_refused, IsPreprocessed}
use Rattle.project_file.specs.Projects.{PlainUnit, PlainProject}
use Rattle.project_store.specs.Reads.{names_of}
use Rattle.plain_pp.specs.Units.{sources_of, file_of}
use Rattle.file_outcomes.specs.Laws.{NoFileIsLeftOut}
use Rattle.unit_outcomes.specs.Laws.{HasFiles, UnitsHaveOutcomes}
use Rattle.command_projects.specs.Products.{on_by, admits_named, not_admitted}
use Rattle.command_projects.specs.Projects.{WithFiles, Unless}
use Rattle.command_tokens.specs.Words.{UnitQuery}
use Rattle.command_tokens.specs.Tokens.{NumberedUnit, numbered, unit_from, FitsProject, not_present, not_preprocessed, prints, OfSources, OfUnit, OfProject}
use Rattle.command_outcomes.specs.Concluding.{Concludes}
use Rattle.command_outcomes.specs.Laws.{TokensConclude}
use Rattle.command_outcomes.proofs.Courses.{says_so, unless_concludes, fit_concludes, files_conclude, project_concludes}

found_below : (number : ℕ) (file : List ℕ) (units : List PlainUnit) (asked : NumberedUnit) → unit_from number file units ≡ Some asked → asked.number < number + length units
found_below number file [] asked e = let no : ◌≡◌ {A = Option NumberedUnit} None (Some asked) = e in cc
found_below number file (unit ∷ units) asked e = by (bytes_eq unit.file file) e (found_below (number + 1) file units asked)
  where
    by : (b : Bool) → (if b then Some (numbered number unit) else unit_from (number + 1) file units) ≡ Some asked → (unit_from (number + 1) file units ≡ Some asked → asked.number < number + 1 + length units) → asked.number < number + suc (length units)
    by true e rest = let same : number ≡ asked.number = cc in omega (arith, same)
    by false e rest = let h = rest e in omega (arith, h)

pub names_count : (project : PlainProject) → length (names_of project) ≡ length project.headers + length project.units
names_count project = length-append project.headers (map (λ u. u.file) project.units) ∙ ap (λ n. length project.headers + n) (length-map project.units (λ u. u.file))

module _ (files_law : NoFileIsLeftOut) (units_law : UnitsHaveOutcomes) (held : Lookup) where
  sources_end : (s : Sources) (number : ℕ) → HasFiles s number → Concludes (OfSources s number) held
  sources_end s number has = let outcome = units_law s number has in by outcome.0 outcome.1
    where
      by : (outcome : Outcome) → IsPreprocessed s number outcome → Concludes (OfSources s number) held
      by (gives tokens) is = says_so held (OfSources s number) (prints tokens) (inl (tokens, is, refl))
      by (is_refused why) is = says_so held (OfSources s number) not_preprocessed (inr (why, is, refl))

  unit_ends : (q : UnitQuery) (project : PlainProject) (asked : NumberedUnit) → FitsProject q project asked → (sources : List PlainFile) → length sources ≡ length (names_of project) → Concludes (OfUnit q project asked sources) held
  unit_ends q project asked fits sources same =
      let on = on_by project.features q.names in
      let s = sources_of project sources on in
      let number = file_of project asked.number in
      let count : length sources ≡ length project.headers + length project.units = same ∙ names_count project in
      let within : asked.number < 0 + length project.units = found_below 0 q.unit project.units asked fits.unit in
      unless_concludes held (admits_named project q.names) not_admitted (Unless (value on asked.unit.when) not_present (OfSources s number))
      (unless_concludes held (value on asked.unit.when) not_present (OfSources s number)
      (sources_end s number (record { unit = omega (arith, count, within); headers = omega (arith, count) })))

  project_ends : (q : UnitQuery) (project : PlainProject) → Concludes (OfProject q project) held
  project_ends q project =
      fit_concludes held (FitsProject q project) (λ asked. WithFiles (names_of project) (OfUnit q project asked))
      (λ asked fits. files_conclude held (names_of project) (OfUnit q project asked) (unit_ends q project asked fits))

pub tokens_end : NoFileIsLeftOut → UnitsHaveOutcomes → TokensConclude
tokens_end files_law units_law alloc q held =
    project_concludes held files_law alloc q.project (OfProject q) (λ project bytes is. project_ends files_law units_law held q project)
