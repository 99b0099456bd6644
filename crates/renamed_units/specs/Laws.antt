-- LAWS, each the contract of a function of this crate.
use Rattle.std.specs.Prelude.{◌≡◌, ◌<◌, ◌≤◌, ℕ, false, List, length, All, IsTrue}
use Rattle.std.specs.List.{list_any}
use Rattle.std.specs.Str.{bytes_eq}
use Rattle.text_edits.specs.Span.{PlainSpan}
use Rattle.c_text.specs.declared.token.TokenKind.TheVariants.{Name}
use Rattle.c_text.specs.Token.{PlainToken, SameSpelling}
use Rattle.c_text.specs.Directives.{predefined_names}
use Rattle.c_text.specs.Preprocessing.{Sources, Outcome, gives, is_refused, IsPreprocessed, built_in_file}
use Rattle.renamings.specs.Renamings.{Renaming, is_renamed, FitsFiles}
use Rattle.active_tokens.specs.Active.{IsActive, IsDefinedAt}
use Rattle.renamed_units.specs.Pairs.{Pairs}
use Rattle.renamed_units.specs.Renamed.{renamed_sources, renamed_outcome}

-- a unit of a project: its file is one of the project's, and so are those of the headers; none of them has the number of the
-- built-in file
pub record IsUnitOf (s : Sources) (number : ℕ) : Type 0 where
  pub unit : number < length s.files
  pub headers : length s.headers ≤ length s.files
  pub few : length s.files ≤ built_in_file

-- where the unit reads a renamed token, neither the old nor the new name is defined as a macro
pub record AreNoMacros (r : Renaming) (s : Sources) (number : ℕ) : Type 0 where
  pub old_name : (file : ℕ) (span : PlainSpan) → IsTrue (is_renamed r file span) → IsDefinedAt s number file span r.old → ⊥
  pub new_name : (file : ℕ) (span : PlainSpan) → IsTrue (is_renamed r file span) → IsDefinedAt s number file span r.new → ⊥

-- Preprocessing and renaming go together: where a name that isn't predefined is no macro, and its new name neither, the renamed unit
-- gives the renamed tokens, or is refused for the same reason at the same token.
abbrev pub UnitsAreRenamed : Type 0
UnitsAreRenamed =
    (r : Renaming) (s : Sources) (number : ℕ) (outcome : Outcome) → FitsFiles r s.files → IsUnitOf s number
    → list_any (bytes_eq r.old) predefined_names ≡ false → AreNoMacros r s number → IsPreprocessed s number outcome
    → IsPreprocessed (renamed_sources r s) number (renamed_outcome r outcome)

-- the unit reads no renamed token at all
abbrev pub ReadsNoRenamed : Renaming → Sources → ℕ → Type 0
ReadsNoRenamed r s number = (file : ℕ) (span : PlainSpan) → IsTrue (is_renamed r file span) → IsActive s number file span → ⊥

-- tokens of the same spellings, or refusals for the same reason
abbrev pub SameOutcomes : Outcome → Outcome → Type 0
SameOutcomes (gives as_) (gives bs) = Pairs SameSpelling as_ bs
SameOutcomes (gives as_) (is_refused w) = ⊥
SameOutcomes (is_refused v) (gives bs) = ⊥
SameOutcomes (is_refused v) (is_refused w) = w.kind ≡ v.kind

-- Where a unit reads no renamed token, the renamed unit gives tokens of the same spellings, or is refused for the same reason.
abbrev pub UntouchedUnitsAreAlike : Type 0
UntouchedUnitsAreAlike =
    (r : Renaming) (s : Sources) (number : ℕ) (outcome : Outcome) → FitsFiles r s.files → IsUnitOf s number → ReadsNoRenamed r s number
    → IsPreprocessed s number outcome
    → IsPreprocessed (renamed_sources r s) number (renamed_outcome r outcome) × SameOutcomes outcome (renamed_outcome r outcome)

-- Only names among the tokens of a unit are renamed, and none where the unit reads no renamed token.
pub record RenamedAreNames : Type 0 where
  pub are_names :
      (r : Renaming) (s : Sources) (number : ℕ) (tokens : List PlainToken) → FitsFiles r s.files → IsUnitOf s number
      → list_any (bytes_eq r.old) predefined_names ≡ false → AreNoMacros r s number → IsPreprocessed s number (gives tokens)
      → All (λ token. IsTrue (is_renamed r token.origin.file token.origin.span) → token.kind ≡ Name) tokens
  pub are_none :
      (r : Renaming) (s : Sources) (number : ℕ) (tokens : List PlainToken) → FitsFiles r s.files → IsUnitOf s number
      → ReadsNoRenamed r s number → IsPreprocessed s number (gives tokens)
      → All (λ token. is_renamed r token.origin.file token.origin.span ≡ false) tokens
