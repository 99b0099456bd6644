-- What becomes of a unit in an untouched configuration, before and after.
use Rattle.std.proofs.Common.{◌≡◌, ℕ, Bool, false, List, map, Contains, sym, subst}
use Rattle.std.proofs.lemmas.List.Elements.{All-weaker}
use Rattle.text_edits.specs.Files.{PlainFile}
use Rattle.c_text.specs.Token.{PlainToken}
use Rattle.c_text.specs.Preprocessing.{Outcome, gives, is_refused, IsPreprocessed, Refusal}
use Rattle.project_file.specs.Projects.{PlainProject}
use Rattle.plain_pp.specs.Laws.{OutcomesAreOne}
use Rattle.plain_pp.specs.Units.{sources_of, file_of}
use Rattle.project_program.specs.Programs.{present_units, UnitGives}
use Rattle.unit_outcomes.specs.Laws.{UnitsHaveOutcomes}
use Rattle.renamings.specs.Renamings.{Renaming, is_renamed, renamed_files, renamed_token}
use Rattle.renamed_trees.specs.RenamedTrees.{IsNameIfRenamed, OnlyNamesAreRenamed}
use Rattle.renamed_units.specs.Renamed.{renamed_outcome}
use Rattle.renamed_units.specs.Laws.{IsUnitOf, UntouchedUnitsAreAlike, RenamedAreNames, SameOutcomes}
use Rattle.renamed_sources.specs.Laws.{SourcesAreRenamed}
use Rattle.untouched_projects.specs.Untouched.{IsUntouched, WasAlike}
use Rattle.untouched_projects.specs.Laws.{UntouchedUnitsKeepOutcomes}

-- the laws on units that it follows from
pub record UnitLaws : Type 0 where
  pub alike : UntouchedUnitsAreAlike
  pub names : RenamedAreNames
  pub sources : SourcesAreRenamed
  pub outcomes : UnitsHaveOutcomes
  pub one : OutcomesAreOne

name_if : (r : Renaming) (token : PlainToken) → is_renamed r token.origin.file token.origin.span ≡ false → IsNameIfRenamed r token
name_if r token e h = let f : ⊥ = cc in absurd f

-- the tokens, or the reason, from which these were made
pub record HadTokens (r : Renaming) (project : PlainProject) (files : List PlainFile) (on : ℕ → Bool) (unit : ℕ) (tokens : List PlainToken) : Type 0 where
  pub before : List PlainToken
  pub gave : UnitGives project files on unit before
  pub renamed : tokens ≡ map (renamed_token r) before

pub record WasRefused (project : PlainProject) (files : List PlainFile) (on : ℕ → Bool) (unit : ℕ) : Type 0 where
  pub why : Refusal
  pub refused : IsPreprocessed (sources_of project files on) (file_of project unit) (is_refused why)

module _ (laws : UnitLaws) (r : Renaming) (project : PlainProject) (files : List PlainFile) (on : ℕ → Bool) (still : IsUntouched r project files on) (unit : ℕ) (present : Contains (present_units project on) unit) where
  is_unit : IsUnitOf (sources_of project files on) (file_of project unit)
  is_unit = laws.sources.unit project files on unit still.has_files present

  pub keeps :
      (outcome : Outcome) → IsPreprocessed (sources_of project files on) (file_of project unit) outcome
      → IsPreprocessed (sources_of project (renamed_files r 0 files) on) (file_of project unit) (renamed_outcome r outcome)
      × SameOutcomes outcome (renamed_outcome r outcome)
  keeps outcome is = laws.alike r (sources_of project files on) (file_of project unit) outcome still.fits is_unit (still.unread unit present) is

  pub was_alike :
      (outcome : Outcome) → IsPreprocessed (sources_of project (renamed_files r 0 files) on) (file_of project unit) outcome
      → WasAlike r project files on unit outcome
  was_alike outcome is =
      let before = laws.outcomes (sources_of project files on) (file_of project unit) (record { unit = is_unit.unit; headers = is_unit.headers }) in
      let after = keeps before.0 before.1 in
      let same : outcome ≡ renamed_outcome r before.0 =
      laws.one (sources_of project (renamed_files r 0 files) on) (file_of project unit) outcome (renamed_outcome r before.0) is after.0 in
      record {
        before = before.0;
        was = before.1;
        renamed = same;
        alike = subst (λ (o : Outcome). SameOutcomes before.0 o) (sym same) after.1;
      }

  pub had_tokens : (tokens : List PlainToken) → UnitGives project (renamed_files r 0 files) on unit tokens → HadTokens r project files on unit tokens
  had_tokens tokens is = let was = was_alike (gives tokens) is in by was.before was.was was.renamed
    where
      by : (before : Outcome) → IsPreprocessed (sources_of project files on) (file_of project unit) before → gives tokens ≡ renamed_outcome r before → HadTokens r project files on unit tokens
      by (gives old) was same = record { before = old; gave = was; renamed = cc }
      by (is_refused why) was same = absurd cc

  pub was_refused : (why : Refusal) → IsPreprocessed (sources_of project (renamed_files r 0 files) on) (file_of project unit) (is_refused why) → WasRefused project files on unit
  was_refused why is = let was = was_alike (is_refused why) is in by was.before was.was was.renamed
    where
      by : (before : Outcome) → IsPreprocessed (sources_of project files on) (file_of project unit) before → is_refused why ≡ renamed_outcome r before → WasRefused project files on unit
      by (gives old) was same = absurd cc
      by (is_refused old) was same = record { why = old; refused = was }

  pub only_names : (tokens : List PlainToken) → UnitGives project files on unit tokens → OnlyNamesAreRenamed r tokens
  only_names tokens is =
      All-weaker (λ token. is_renamed r token.origin.file token.origin.span ≡ false) (IsNameIfRenamed r) (name_if r) tokens
      (laws.names.are_none r (sources_of project files on) (file_of project unit) tokens still.fits is_unit (still.unread unit present) is)

pub outcomes_kept : UnitLaws → UntouchedUnitsKeepOutcomes
outcomes_kept laws = record {
  keeps = λ r project files on unit outcome still present is. keeps laws r project files on still unit present outcome is;
  no_other = λ r project files on unit outcome still present is. was_alike laws r project files on still unit present outcome is;
}
