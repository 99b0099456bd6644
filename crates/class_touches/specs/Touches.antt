-- Where a project reads one of the tokens that are listed.
use Rattle.std.specs.Prelude.{ℕ, Bool, List, Option, Some, None, Contains}
use Rattle.cond_formula.specs.Features.{has}
use Rattle.text_edits.specs.Files.{PlainFile}
use Rattle.c_text.specs.Preprocessing.{Sources}
use Rattle.active_tokens.specs.Active.{IsActive, IsDefinedAt}
use Rattle.project_file.specs.Projects.{PlainProject}
use Rattle.plain_pp.specs.Units.{sources_of, file_of}
use Rattle.project_program.specs.Programs.{present_units}
use Rattle.program_occurrences.specs.Classes.{PlainFileToken}

-- The unit in the file with this number reads the token outside every skipped group, at least once while the name is defined as a macro if
-- one is given.
abbrev pub IsReadWhile : Sources → ℕ → PlainFileToken → Option (List ℕ) → Type 0
IsReadWhile s number token None = IsActive s number token.file token.span
IsReadWhile s number token (Some name) = IsDefinedAt s number token.file token.span name

module _ (project : PlainProject) (files : List PlainFile) where
  -- a unit that is present reads the token so
  pub record IsReadInProject (token : PlainFileToken) (name : Option (List ℕ)) (c : List Bool) : Type 0 where
    pub unit : ℕ
    pub present : Contains (present_units project (has c)) unit
    pub reads : IsReadWhile (sources_of project files (has c)) (file_of project unit) token name

  -- one of the tokens is read so
  pub record AreReadInProject (tokens : List PlainFileToken) (name : Option (List ℕ)) (c : List Bool) : Type 0 where
    pub token : PlainFileToken
    pub among : Contains tokens token
    pub is_read : IsReadInProject token name c

  -- A unit that is present reads one of the tokens outside every skipped group.
  abbrev pub IsTouchedBy : List PlainFileToken → List Bool → Type 0
  IsTouchedBy tokens c = AreReadInProject tokens None c

  -- A unit that is present reads one of them while the name is defined as a macro.
  abbrev pub IsReadAsMacroBy : List PlainFileToken → List ℕ → List Bool → Type 0
  IsReadAsMacroBy tokens name c = AreReadInProject tokens (Some name) c
