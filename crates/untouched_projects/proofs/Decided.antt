-- Whether a unit reads a renamed token is decided: it is looked for among what the unit reads.
use Rattle.std.proofs.Common.{◌≡◌, ◌⊎◌, ℕ, suc, Bool, true, false, List, [], ◌∷◌, All, Contains, inl, inr, refl, sym, ap, ◌∙◌, arith}
use Rattle.std.specs.Prelude.{⊤}
use Rattle.std.proofs.lemmas.List.Elements.{All-nil, All-cons, All-contains}
use Rattle.text_edits.specs.Span.{PlainSpan}
use Rattle.text_edits.specs.Files.{PlainFile}
use Rattle.c_text.specs.Token.{PlainToken}
use Rattle.c_text.specs.Preprocessing.{Source, Sources, Syntax, IsSyntaxOf}
use Rattle.c_lexer.specs.Laws.{LinesAreOne}
use Rattle.file_walks.specs.Laws.{PartsAreWalked, FilesBreak}
use Rattle.active_tokens.specs.Reads.{Read}
use Rattle.active_tokens.specs.Active.{AreMisplaced, IsReadAt, IsActive, reads_of_unit}
use Rattle.read_walks.specs.Laws.{ReadsAreWalked, FilesHaveMisplaced}
use Rattle.project_file.specs.Projects.{PlainProject}
use Rattle.plain_pp.specs.Laws.{ProjectsHaveSyntax}
use Rattle.plain_pp.specs.Units.{sources_of, file_of}
use Rattle.project_program.specs.Programs.{present_units}
use Rattle.renamings.specs.Renamings.{Renaming, is_renamed}
use Rattle.renamed_units.specs.Laws.{IsUnitOf, ReadsNoRenamed}
use Rattle.renamed_units.proofs.Once.{unit-reads, read-again}
use Rattle.renamed_sources.specs.Projects.{HasItsFiles}
use Rattle.renamed_sources.specs.Laws.{SourcesAreRenamed}
use Rattle.untouched_projects.specs.Untouched.{ReadsRenamed, ReadRenamed, ReadNoRenamed}
use Rattle.untouched_projects.specs.Laws.{TouchingIsDecided}

-- ---- lists whose elements are decided

record HasOne {X : Type 0} (P : X → Type 0) (xs : List X) : Type 0 where
  one : X
  among : Contains xs one
  holds : P one

behind : {X : Type 0} (x : X) (xs : List X) (y : X) → Contains xs y → Contains (x ∷ xs) y
behind x xs y h = (suc h.0, omega (arith, h.1), h.2)

one_or_all : {X : Type 0} (P Q : X → Type 0) (xs : List X) → ((x : X) → Contains xs x → P x ⊎ Q x) → HasOne P xs ⊎ All Q xs
one_or_all P Q [] decided = inr (All-nil Q)
one_or_all {X} P Q (x ∷ xs) decided = by (decided x (0, omega arith, refl)) (one_or_all P Q xs (λ y h. decided y (behind x xs y h)))
  where
    by : P x ⊎ Q x → HasOne P xs ⊎ All Q xs → HasOne P (x ∷ xs) ⊎ All Q (x ∷ xs)
    by (inl first) others = inl (record { one = x; among = (0, omega arith, refl); holds = first })
    by (inr first) (inl later) = inl (record { one = later.one; among = behind x xs later.one later.among; holds = later.holds })
    by (inr first) (inr later) = inr (All-cons Q x xs first later)

by_value : (b : Bool) → (b ≡ true) ⊎ (b ≡ false)
by_value true = inl refl
by_value false = inr refl

-- ---- what a unit reads

-- the laws on reading that it follows from
pub record ReadLaws : Type 0 where
  pub sources : SourcesAreRenamed
  pub syntax : ProjectsHaveSyntax
  pub walks : PartsAreWalked
  pub breaks : FilesBreak
  pub one : LinesAreOne
  pub read : ReadsAreWalked
  pub misplaced : FilesHaveMisplaced

module _ (laws : ReadLaws) (r : Renaming) (s : Sources) (number : ℕ) (unit : IsUnitOf s number) where
  abbrev x : Syntax
  x = (laws.syntax s).0

  are : IsSyntaxOf s x
  are = (laws.syntax s).1

  abbrev misplaced : Source → List PlainToken
  misplaced = (laws.misplaced s x are).misplaced

  told : AreMisplaced are misplaced
  told = (laws.misplaced s x are).are_misplaced

  abbrev reads : List Read
  reads = reads_of_unit s x misplaced number

  -- what is read in one reading of the project's files is read in each
  active_in_all : (file : ℕ) (span : PlainSpan) → IsReadAt reads file span (λ read. ⊤) → IsActive s number file span
  active_in_all file span is y are' misplaced' told' =
      read-again (λ read. ⊤) (λ a b k h. tt) (λ read token h. tt) (λ read token h. tt) reads (reads_of_unit s y misplaced' number)
      (unit-reads laws.one s x y are are' misplaced misplaced' told told' laws.walks laws.breaks laws.read number unit.unit unit.headers) file span is

  abbrev IsOfRenamed : PlainToken → Type 0
  IsOfRenamed token = is_renamed r token.origin.file token.origin.span ≡ true

  abbrev IsOfOther : PlainToken → Type 0
  IsOfOther token = is_renamed r token.origin.file token.origin.span ≡ false

  -- each run of tokens that are read together has a renamed one, or none is renamed
  found_or_none : HasOne (λ (read : Read). HasOne IsOfRenamed read.tokens) reads ⊎ All (λ (read : Read). All IsOfOther read.tokens) reads
  found_or_none =
      one_or_all (λ (read : Read). HasOne IsOfRenamed read.tokens) (λ (read : Read). All IsOfOther read.tokens) reads
      (λ read h. one_or_all IsOfRenamed IsOfOther read.tokens (λ token i. by_value (is_renamed r token.origin.file token.origin.span)))

  renamed_read : HasOne (λ (read : Read). HasOne IsOfRenamed read.tokens) reads → ReadsRenamed r s number
  renamed_read found =
      let token = found.holds.one in
      record {
        file = token.origin.file;
        span = token.origin.span;
        renamed = found.holds.holds;
        active = active_in_all token.origin.file token.origin.span (record {
          read = found.one;
          token = token;
          among = found.among;
          within = found.holds.among;
          file_is = refl;
          span_is = refl;
          holds = tt;
        });
      }

  none_read : All (λ (read : Read). All IsOfOther read.tokens) reads → ReadsNoRenamed r s number
  none_read others file span renamed active =
      let at = active x are misplaced told in
      let other = All-contains IsOfOther at.read.tokens at.token (All-contains (λ (read : Read). All IsOfOther read.tokens) reads at.read others at.among) at.within in
      let same : is_renamed r at.token.origin.file at.token.origin.span ≡ is_renamed r file span =
      ap (λ (n : ℕ). is_renamed r n at.token.origin.span) at.file_is ∙ ap (is_renamed r file) at.span_is in
      let both : false ≡ true = sym other ∙ same ∙ renamed in
      absurd cc

  pub reads_renamed_or_none : ReadsRenamed r s number ⊎ ReadsNoRenamed r s number
  reads_renamed_or_none = elim found_or_none as (λ z. ReadsRenamed r s number ⊎ ReadsNoRenamed r s number) [
    | inl found ↦ inl (renamed_read found)
    | inr others ↦ inr (none_read others)
  ]

-- ---- the units that are present

module _ (r : Renaming) (project : PlainProject) (files : List PlainFile) (on : ℕ → Bool) where
  abbrev Reads : ℕ → Type 0
  Reads unit = ReadsRenamed r (sources_of project files on) (file_of project unit)

  abbrev Reads_none : ℕ → Type 0
  Reads_none unit = ReadsNoRenamed r (sources_of project files on) (file_of project unit)

  by_units : HasOne Reads (present_units project on) ⊎ All Reads_none (present_units project on) → ReadRenamed r project files on ⊎ ReadNoRenamed r project files on
  by_units (inl found) = inl (record { unit = found.one; present = found.among; reads = found.holds })
  by_units (inr none) = inr (λ unit h. All-contains Reads_none (present_units project on) unit none h)

  decided : ReadLaws → HasItsFiles project files → ReadRenamed r project files on ⊎ ReadNoRenamed r project files on
  decided laws has =
      by_units (one_or_all Reads Reads_none (present_units project on)
      (λ unit h. reads_renamed_or_none laws r (sources_of project files on) (file_of project unit) (laws.sources.unit project files on unit has h)))

pub touching_decided : ReadLaws → TouchingIsDecided
touching_decided laws r project files on has = decided r project files on laws has
