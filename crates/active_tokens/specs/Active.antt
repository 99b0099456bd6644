-- The file tokens that are active in a configuration: those that a unit reads outside every skipped group, directive lines among them.
use Rattle.std.specs.Prelude.{⊤, ◌≡◌, ◌⊎◌, ◌<◌, ℕ, zero, suc, List, [], length, Option, Some, None, is_some, IsTrue, All, Contains}
use Rattle.text_edits.specs.Span.{PlainSpan}
use Rattle.c_text.specs.Token.{PlainToken}
use Rattle.c_text.specs.Lines.{PlainLine}
use Rattle.c_text.specs.Trees.{Part, IsRead, whole_file, open_at_end, broken_at}
use Rattle.c_text.specs.Preprocessing.{Source, project_file, stdio, stdlib, Reading, Sources, Syntax, setting, read_source, most_nested, at_start, feature_token, IsSyntaxOf, gives, outcome_of, preprocessed}
use Rattle.active_tokens.specs.Reads.{Read, Following, reads_of_part}

-- the tokens of the conditional line that fits no group, if a file with these lines breaks at one
abbrev pub misplaced_in : {lines : List PlainLine} {part : Part} → IsRead lines part → List PlainToken
misplaced_in (whole_file formed are) = []
misplaced_in (open_at_end formed ends are) = []
misplaced_in (broken_at line rest formed are misplaced) = line.tokens

-- these are those tokens, for each file
pub record AreMisplaced {s : Sources} {x : Syntax} (are : IsSyntaxOf s x) (misplaced : Source → List PlainToken) : Type 0 where
  pub in_files :
      (number : ℕ) (below : number < length s.files)
      → misplaced (project_file number) ≡ misplaced_in (are.are_files number below).is_read
  pub in_stdio : misplaced stdio ≡ misplaced_in are.stdio_is.is_read
  pub in_stdlib : misplaced stdlib ≡ misplaced_in are.stdlib_is.is_read

abbrev pub following : List PlainToken → Option (Source → Reading → List Read) → Following
following misplaced deeper = record { misplaced = misplaced; deeper = deeper }

-- what a file reads that so many more may be nested in
abbrev pub reads_of_source : Sources → Syntax → (Source → List PlainToken) → ℕ → Source → Reading → List Read
reads_of_source s x misplaced zero source r =
    reads_of_part (setting s x source None) (following (misplaced source) None) r (x.part_of source)
reads_of_source s x misplaced (suc more) source r =
    reads_of_part (setting s x source (Some (read_source s x more)))
    (following (misplaced source) (Some (reads_of_source s x misplaced more))) r (x.part_of source)

-- what the unit in the file with this number reads
abbrev pub reads_of_unit : Sources → Syntax → (Source → List PlainToken) → ℕ → List Read
reads_of_unit s x misplaced number = reads_of_source s x misplaced most_nested (project_file number) (at_start s)

-- a token that stands there is among those that are read, with these macros
pub record IsReadAt (reads : List Read) (file : ℕ) (span : PlainSpan) (Holds : Read → Type 0) : Type 0 where
  pub read : Read
  pub token : PlainToken
  pub among : Contains reads read
  pub within : Contains read.tokens token
  pub file_is : token.origin.file ≡ file
  pub span_is : token.origin.span ≡ span
  pub holds : Holds read

-- what a unit reads, however its project's files are read
abbrev pub InAllReads : Sources → ℕ → (List Read → Type 0) → Type 0
InAllReads s number Holds =
    (x : Syntax) (are : IsSyntaxOf s x) (misplaced : Source → List PlainToken) → AreMisplaced are misplaced
    → Holds (reads_of_unit s x misplaced number)

-- The unit in the file with this number makes the token active that stands there.
abbrev pub IsActive : Sources → ℕ → ℕ → PlainSpan → Type 0
IsActive s number file span = InAllReads s number (λ reads. IsReadAt reads file span (λ read. ⊤))

-- It reads that token at least once while the name is defined as a macro.
abbrev pub IsDefinedAt : Sources → ℕ → ℕ → PlainSpan → List ℕ → Type 0
IsDefinedAt s number file span name = InAllReads s number (λ reads. IsReadAt reads file span (λ read. IsTrue (is_some (read.table name))))

-- the token of a feature that is on, or one whose origin is active
abbrev pub HasActiveOrigin : List Read → PlainToken → Type 0
HasActiveOrigin reads token =
    ((token.origin.file ≡ feature_token.origin.file) × (token.origin.span ≡ feature_token.origin.span))
    ⊎ IsReadAt reads token.origin.file token.origin.span (λ read. ⊤)

-- The tokens that preprocessing gives are those of features that are on, and copies of active tokens.
abbrev pub TokensComeFromActive : Type 0
TokensComeFromActive =
    (s : Sources) (x : Syntax) (misplaced : Source → List PlainToken) (number : ℕ) (tokens : List PlainToken)
    → outcome_of (preprocessed s x number) ≡ gives tokens → All (HasActiveOrigin (reads_of_unit s x misplaced number)) tokens
