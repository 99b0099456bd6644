-- Units of a project and of the renamed one.
use Rattle.std.proofs.Common.{◌≡◌, ℕ, true, false, List, [], ◌∷◌, map, Option, Some, None, refl, ap, ◌∙◌, subst, inl, inr}
use Rattle.std.specs.Prelude.{⊤, IsTrue, is_some}
use Rattle.std.specs.List.{AllByRecursion, list_any}
use Rattle.std.specs.Str.{bytes_eq}
use Rattle.std.proofs.lemmas.List.Elements.{All-from_recursion, recursion_from_All}
use Rattle.text_edits.specs.Span.{PlainSpan}
use Rattle.c_text.specs.Token.{PlainToken, SameSpelling}
use Rattle.c_text.specs.Directives.{predefined_names}
use Rattle.c_text.specs.Macros.{Meaning}
use Rattle.c_text.specs.Preprocessing.{Flow, on, refused, Source, project_file, Sources, Syntax, IsSyntaxOf, Outcome, gives, is_refused, outcome_of, preprocessed, IsPreprocessed, most_nested, at_start, built_in_file}
use Rattle.renamings.specs.Renamings.{Renaming, is_renamed, same_span, renamed_token, FitsFiles}
use Rattle.active_tokens.specs.Reads.{Read}
use Rattle.active_tokens.specs.Active.{AreMisplaced, reads_of_unit, InAllReads, IsReadAt, IsDefinedAt, IsActive, HasActiveOrigin, TokensComeFromActive}
use Rattle.file_walks.specs.Laws.{LinesHaveParts, PartsAreWalked, FilesBreak}
use Rattle.c_lexer.specs.Laws.{LinesAreOne, TextsHaveLines}
use Rattle.read_walks.specs.Laws.{ReadsAreWalked, FilesHaveMisplaced}
use Rattle.pp_lines.specs.Laws.{ValuesAreDecided}
use Rattle.renamings.specs.Laws.{LinesAreRenamed}
use Rattle.renamed_units.specs.Pairs.{Pairs}
use Rattle.renamed_units.proofs.Alike.{IsNamed, AlikeFlows}
use Rattle.renamed_units.specs.Renamed.{renamed_sources, renamed_outcome}
use Rattle.renamed_units.specs.Laws.{IsUnitOf, AreNoMacros, UnitsAreRenamed, ReadsNoRenamed, SameOutcomes, UntouchedUnitsAreAlike, RenamedAreNames}
use Rattle.renamed_units.proofs.Conditions.{some-alike}
use Rattle.renamed_units.proofs.Readings.{IsQuietIn, IsQuiet, AreQuiet}
use Rattle.renamed_units.proofs.WalkReads.{AlikeReads}
use Rattle.renamed_units.proofs.Tokens.{In, each-of}
use Rattle.renamed_units.proofs.Names.{by-cases}
use Rattle.renamed_units.proofs.Files.{standing-at, renamed-file, start-alike}
use Rattle.renamed_units.proofs.Once.{nothing, unit-reads, contains-of, only, read-again}
use Rattle.renamed_units.proofs.Sources.{source-alike}
use Rattle.renamed_units.proofs.Syntaxes.{the_syntax, is-syntax}

flow-outcome : (r : Renaming) (f g : Flow) → AlikeFlows r f g → outcome_of g ≡ renamed_outcome r (outcome_of f)
flow-outcome r (on a) (on b) s = ap gives s.tokens
flow-outcome r (on a) (refused w) s = absurd s
flow-outcome r (refused v) (on b) s = absurd s
flow-outcome r (refused v) (refused w) s = ap is_refused s

flow-names : (r : Renaming) (f g : Flow) (tokens : List PlainToken) → AlikeFlows r f g → outcome_of f ≡ gives tokens → AllByRecursion (IsNamed r) tokens
flow-names r (on a) (on b) tokens s e = let is : a.tokens ≡ tokens = cc in subst (AllByRecursion (IsNamed r)) is s.names
flow-names r (on a) (refused w) tokens s e = absurd s
flow-names r (refused v) (on b) tokens s e = absurd s
flow-names r (refused v) (refused w) tokens s e = absurd (let h : is_refused v ≡ gives tokens = e in cc)

none-of : (found : Option Meaning) → (IsTrue (is_some found) → ⊥) → found ≡ None
none-of None k = refl
none-of (Some m) k = absurd (k refl)

module _ (walks : PartsAreWalked) (breaks : FilesBreak) (are_read : ReadsAreWalked) (one : LinesAreOne) where
  -- what holds of a read in one reading of the project's files holds in all
  in-all-reads : (Holds : Read → Type 0) → ((a b : Read) → AlikeReads nothing a b → Holds a → Holds b) → ((read : Read) (token : PlainToken) → Holds read → Holds (only read token)) → ((read : Read) (token : PlainToken) → Holds (only read token) → Holds read)
      → (s : Sources) (number : ℕ) → IsUnitOf s number → (x : Syntax) (are : IsSyntaxOf s x) (misplaced : Source → List PlainToken) → AreMisplaced are misplaced → (file : ℕ) (span : PlainSpan)
      → IsReadAt (reads_of_unit s x misplaced number) file span Holds → InAllReads s number (λ reads. IsReadAt reads file span Holds)
  in-all-reads Holds keeps down up s number unit x are misplaced told file span is y are' misplaced' told' =
      read-again Holds keeps down up (reads_of_unit s x misplaced number) (reads_of_unit s y misplaced' number)
      (unit-reads one s x y are are' misplaced misplaced' told told' walks breaks are_read number unit.unit unit.headers) file span is

  defined-in-all : (name : List ℕ) (s : Sources) (number : ℕ) → IsUnitOf s number → (x : Syntax) (are : IsSyntaxOf s x) (misplaced : Source → List PlainToken) → AreMisplaced are misplaced → (file : ℕ) (span : PlainSpan)
      → IsReadAt (reads_of_unit s x misplaced number) file span (λ read. IsTrue (is_some (read.table name))) → IsDefinedAt s number file span name
  defined-in-all name =
      in-all-reads (λ read. IsTrue (is_some (read.table name))) (λ a b k h. some-alike nothing (a.table name) (b.table name) (k.tables name) ∙ h) (λ read token h. h) (λ read token h. h)

  active-in-all : (s : Sources) (number : ℕ) → IsUnitOf s number → (x : Syntax) (are : IsSyntaxOf s x) (misplaced : Source → List PlainToken) → AreMisplaced are misplaced → (file : ℕ) (span : PlainSpan)
      → IsReadAt (reads_of_unit s x misplaced number) file span (λ read. ⊤) → IsActive s number file span
  active-in-all = in-all-reads (λ read. ⊤) (λ a b k h. tt) (λ read token h. tt) (λ read token h. tt)

  is-read-at : (all : List Read) (read : Read) (token : PlainToken) (Holds : Read → Type 0) → In read all → In token read.tokens → Holds read → IsReadAt all token.origin.file token.origin.span Holds
  is-read-at all read token Holds i j h = record {
    read = read;
    token = token;
    among = contains-of read all i;
    within = contains-of token read.tokens j;
    file_is = refl;
    span_is = refl;
    holds = h;
  }

  module _ (renamed : LinesAreRenamed) (have : TextsHaveLines) (parted : LinesHaveParts) (decided : ValuesAreDecided) (have_misplaced : FilesHaveMisplaced) where
    flows-alike : (r : Renaming) (s : Sources) (number : ℕ) → FitsFiles r s.files → IsUnitOf s number → (x : Syntax) (are : IsSyntaxOf s x) (misplaced : Source → List PlainToken) → AreMisplaced are misplaced
        → AreQuiet r (reads_of_unit s x misplaced number) → (x' : Syntax) → IsSyntaxOf (renamed_sources r s) x' → AlikeFlows r (preprocessed s x number) (preprocessed (renamed_sources r s) x' number)
    flows-alike r s number fits unit x are misplaced told quiet x' are' =
        source-alike r s (renamed_sources r s) x x' misplaced (standing-at renamed one r s fits unit.few x x' are are') walks breaks are_read are are' unit.headers refl refl
        (renamed-file renamed one r s fits unit.few x x' are are' misplaced told) most_nested (project_file number) unit.unit (at_start s) (at_start (renamed_sources r s))
        (start-alike r s (renamed_sources r s) (fits.elsewhere built_in_file unit.few) refl) quiet

    quiet-alike : (r : Renaming) (s : Sources) (number : ℕ) (outcome : Outcome) → FitsFiles r s.files → IsUnitOf s number → (x : Syntax) (are : IsSyntaxOf s x) (misplaced : Source → List PlainToken) → AreMisplaced are misplaced
        → AreQuiet r (reads_of_unit s x misplaced number) → IsPreprocessed s number outcome → IsPreprocessed (renamed_sources r s) number (renamed_outcome r outcome)
    quiet-alike r s number outcome fits unit x are misplaced told quiet before x' are' =
        flow-outcome r (preprocessed s x number) (preprocessed (renamed_sources r s) x' number) (flows-alike r s number fits unit x are misplaced told quiet x' are')
        ∙ ap (renamed_outcome r) (before x are)

    quiet-names : (r : Renaming) (s : Sources) (number : ℕ) (tokens : List PlainToken) → FitsFiles r s.files → IsUnitOf s number → (x : Syntax) (are : IsSyntaxOf s x) (misplaced : Source → List PlainToken) → AreMisplaced are misplaced
        → AreQuiet r (reads_of_unit s x misplaced number) → IsPreprocessed s number (gives tokens) → AllByRecursion (IsNamed r) tokens
    quiet-names r s number tokens fits unit x are misplaced told quiet before =
        flow-names r (preprocessed s x number) (preprocessed (renamed_sources r s) x' number) tokens
        (flows-alike r s number fits unit x are misplaced told quiet x' (is-syntax have parted decided (renamed_sources r s))) (before x are)
      where
        x' : Syntax
        x' = the_syntax have parted decided (renamed_sources r s)

    module _ (r : Renaming) (s : Sources) (number : ℕ) (fits : FitsFiles r s.files) (unit : IsUnitOf s number) where
      -- one reading of the project's files
      abbrev x : Syntax
      x = the_syntax have parted decided s

      are : IsSyntaxOf s x
      are = is-syntax have parted decided s

      abbrev misplaced : Source → List PlainToken
      misplaced = (have_misplaced s x are).misplaced

      told : AreMisplaced are misplaced
      told = (have_misplaced s x are).are_misplaced

      abbrev reads : List Read
      reads = reads_of_unit s x misplaced number

      quiet-token : list_any (bytes_eq r.old) predefined_names ≡ false → AreNoMacros r s number → (read : Read) (token : PlainToken) → In read reads → In token read.tokens → is_renamed r token.origin.file token.origin.span ≡ true
          → (read.table r.old ≡ None) × (read.table r.new ≡ None) × (list_any (bytes_eq r.old) predefined_names ≡ false)
      quiet-token free none read token i j h = (
        none-of (read.table r.old) (λ d. none.old_name token.origin.file token.origin.span h (defined-in-all r.old s number unit x are misplaced told token.origin.file token.origin.span (is-read-at reads read token (λ read. IsTrue (is_some (read.table r.old))) i j d))),
        none-of (read.table r.new) (λ d. none.new_name token.origin.file token.origin.span h (defined-in-all r.new s number unit x are misplaced told token.origin.file token.origin.span (is-read-at reads read token (λ read. IsTrue (is_some (read.table r.new))) i j d))),
        free,
      )

      quiet-of-names : list_any (bytes_eq r.old) predefined_names ≡ false → AreNoMacros r s number → AreQuiet r reads
      quiet-of-names free none =
          each-of (IsQuiet r) reads (λ read i. each-of (IsQuietIn r read.table) read.tokens (λ token j h. quiet-token free none read token i j h))

      unread-token : ReadsNoRenamed r s number → (read : Read) (token : PlainToken) → In read reads → In token read.tokens → is_renamed r token.origin.file token.origin.span ≡ true → ⊥
      unread-token unread read token i j h =
          unread token.origin.file token.origin.span h
          (active-in-all s number unit x are misplaced told token.origin.file token.origin.span (is-read-at reads read token (λ read. ⊤) i j tt))

      quiet-of-unread : ReadsNoRenamed r s number → AreQuiet r reads
      quiet-of-unread unread =
          each-of (IsQuiet r) reads (λ read i. each-of (IsQuietIn r read.table) read.tokens (λ token j h. absurd (unread-token unread read token i j h)))

      not-renamed : ReadsNoRenamed r s number → (token : PlainToken) → HasActiveOrigin reads token → is_renamed r token.origin.file token.origin.span ≡ false
      not-renamed unread token (inl feature) =
          let none : r.spans token.origin.file ≡ [] = ap r.spans feature.0 ∙ fits.elsewhere built_in_file unit.few in
          ap (λ (l : List PlainSpan). list_any (same_span token.origin.span) l) none
      not-renamed unread token (inr is) =
          by-cases (is_renamed r token.origin.file token.origin.span ≡ false) (is_renamed r token.origin.file token.origin.span)
          (λ h. absurd (unread token.origin.file token.origin.span h (active-in-all s number unit x are misplaced told token.origin.file token.origin.span is))) (λ h. h)

      none-renamed : ReadsNoRenamed r s number → (tokens : List PlainToken) → AllByRecursion (HasActiveOrigin reads) tokens → AllByRecursion (λ token. is_renamed r token.origin.file token.origin.span ≡ false) tokens
      none-renamed unread [] a = tt
      none-renamed unread (token ∷ tokens) a = (not-renamed unread token a.0, none-renamed unread tokens a.1)

      same-spellings : (tokens : List PlainToken) → AllByRecursion (λ token. is_renamed r token.origin.file token.origin.span ≡ false) tokens → Pairs SameSpelling tokens (map (renamed_token r) tokens)
      same-spellings [] a = tt
      same-spellings (token ∷ tokens) a = (record { kind = refl; text = let none = a.0 in rw none refl }, same-spellings tokens a.1)

      module _ (comes : TokensComeFromActive) (unread : ReadsNoRenamed r s number) where
        given-unread : (tokens : List PlainToken) → outcome_of (preprocessed s x number) ≡ gives tokens → AllByRecursion (λ token. is_renamed r token.origin.file token.origin.span ≡ false) tokens
        given-unread tokens e =
            none-renamed unread tokens (recursion_from_All (HasActiveOrigin reads) tokens (comes s x misplaced number tokens e))

        same-outcomes : (outcome : Outcome) → outcome_of (preprocessed s x number) ≡ outcome → SameOutcomes outcome (renamed_outcome r outcome)
        same-outcomes (gives tokens) e = same-spellings tokens (given-unread tokens e)
        same-outcomes (is_refused why) e = refl

    pub units-are-renamed : UnitsAreRenamed
    units-are-renamed r s number outcome fits unit free none before =
        quiet-alike r s number outcome fits unit (x r s number fits unit) (are r s number fits unit) (misplaced r s number fits unit) (told r s number fits unit)
        (quiet-of-names r s number fits unit free none) before

    pub untouched-units-are-alike : TokensComeFromActive → UntouchedUnitsAreAlike
    untouched-units-are-alike comes r s number outcome fits unit unread before = (
      quiet-alike r s number outcome fits unit (x r s number fits unit) (are r s number fits unit) (misplaced r s number fits unit) (told r s number fits unit)
          (quiet-of-unread r s number fits unit unread) before,
      same-outcomes r s number fits unit comes unread outcome (before (x r s number fits unit) (are r s number fits unit)),
    )

    pub renamed-are-names : TokensComeFromActive → RenamedAreNames
    renamed-are-names comes = record {
      are_names = λ r s number tokens fits unit free none before.
          All-from_recursion (IsNamed r) tokens
          (quiet-names r s number tokens fits unit (x r s number fits unit) (are r s number fits unit) (misplaced r s number fits unit) (told r s number fits unit)
          (quiet-of-names r s number fits unit free none) before);
      are_none = λ r s number tokens fits unit unread before.
          All-from_recursion (λ token. is_renamed r token.origin.file token.origin.span ≡ false) tokens
          (given-unread r s number fits unit comes unread tokens (before (x r s number fits unit) (are r s number fits unit)));
    }
