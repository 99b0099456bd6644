-- LAWS, each the contract of a function of this crate.
use Rattle.std.specs.Prelude.{◌≡◌, ◌↔◌, ℕ, ◌||◌, List, [], ◌++◌, length, Option, Some, IsTrue, Any}
use Rattle.text_edits.specs.Span.{plain_span}
use Rattle.c_text.specs.declared.origin.FileToken.{FileToken}
use Rattle.c_text.specs.Token.{PlainToken}
use Rattle.c_text.specs.Lines.{PlainLine, AreItsLines}
use Rattle.c_text.specs.Trees.{Part}
use Rattle.c_text.specs.Preprocessing as spec
use Rattle.c_text.specs.Preprocessing.{Reading, Refusal, Flow, Setting, Sources, Syntax, IsSyntaxOf, IsFile, refused, setting}
use Rattle.active_tokens.specs.Reads.{Read, Following, reads_of_part}
use Rattle.active_tokens.specs.Active.{AreMisplaced, IsReadAt, misplaced_in, reads_of_source}
use Rattle.file_walks.specs.Walk.{Walk, start, step}
use Rattle.file_walks.specs.Nests.{nest_of, nest_behind}
use Rattle.unit_files.specs.declared.inclusions.Source.{Source}
use Rattle.unit_files.specs.Inclusions.{plain_source, IsAmong}
use Rattle.unit_files.specs.SourceFiles.{source_number, text_of, its_lines, deeper_of}
use Rattle.read_walks.specs.SourceReads.{HasMisplaced, following_in}
use Rattle.read_walks.specs.WalkReads.{reads_of_step, reads_of_walk, by_token}
use Rattle.read_walks.specs.Tests.{IsDefinedIn, is_read_at}

-- The part of a file and the walk over its lines read the same, token by token, which is enough to tell whether a token is read. They
-- differ in reads of no tokens: the walk has one wherever nothing stands between two directive lines, the part where a file breaks at
-- its end.
abbrev pub ReadsAreWalked : Type 0
ReadsAreWalked =
    (s : Setting) (f : Following) (file length : ℕ) (lines : List PlainLine) (part : Part) (r : Reading)
    → (is : IsFile file length lines part s.broken) → f.misplaced ≡ misplaced_in is.is_read
    → by_token (reads_of_walk s f (start r) lines) ≡ by_token (reads_of_part s f r part)

-- A source and the walk over its lines read the same, token by token, wherever the source stands.
abbrev pub SourceReadsAreWalked : Type 0
SourceReadsAreWalked =
    (s : Sources) (x : Syntax) (are : IsSyntaxOf s x) (misplaced : spec.Source → List PlainToken) → AreMisplaced are misplaced
    → (source : Source) → IsAmong (length s.files) source → (more : ℕ) (all : List PlainLine)
    → AreItsLines (source_number (plain_source source)) (text_of s (plain_source source)) all → (r : Reading)
    → by_token
    (reads_of_walk (setting s x (plain_source source) (deeper_of s x more)) (following_in s x misplaced more (plain_source source)) (start r)
    (its_lines (plain_source source) all))
    ≡ by_token (reads_of_source s x misplaced more (plain_source source) r)

-- However a project's files are read, the lines that fit no group have tokens.
abbrev pub FilesHaveMisplaced : Type 0
FilesHaveMisplaced = (s : Sources) (x : Syntax) (are : IsSyntaxOf s x) → HasMisplaced are

-- Where a step leads, for the reading and for what is read alike: to one walk, of which this holds, or to a refusal. What is read in
-- the step itself stands before what is read behind it.
pub data Leads (Holds : Walk → Type 0) (reading : (Walk → Flow) → Flow) (what : (Walk → List Read) → List Read) : Type 0 where
  goes_on :
      (after : Walk) → Holds after → ((next : Walk → Flow) → reading next ≡ next after)
      → ((next : Walk → List Read) → what next ≡ what (λ v. []) ++ next after) → Leads Holds reading what
  stops :
      (why : Refusal) → ((next : Walk → Flow) → reading next ≡ refused why)
      → ((next : Walk → List Read) → what next ≡ what (λ v. [])) → Leads Holds reading what

-- each line leads to a walk in the groups that are open behind it, or to a refusal
abbrev pub LinesLeadOn : Type 0
LinesLeadOn =
    (s : Setting) (f : Following) (w : Walk) (line : PlainLine)
    → Leads (λ after. nest_behind (nest_of w.groups) line ≡ Some (nest_of after.groups)) (step s w line) (reads_of_step s f w line)

-- Walks that no reading tells apart are one: the walk that a line leads to is told by the reading alone.
abbrev pub WalksAreOne : Type 0
WalksAreOne = (first second : Walk) → ((told : Walk → Reading) → told first ≡ told second) → first ≡ second

-- the test for tokens is exact
abbrev pub TestIsExact : Type 0
TestIsExact =
    (places : List FileToken) (name : Option (List ℕ)) (all : List Read)
    → IsTrue (is_read_at places name all) ↔ Any (λ at. IsReadAt all at.file (plain_span at.span) (IsDefinedIn name)) places

-- it is asked of one list of reads after another
abbrev pub TestIsJoined : Type 0
TestIsJoined =
    (places : List FileToken) (name : Option (List ℕ)) (first second : List Read)
    → is_read_at places name (first ++ second) ≡ (is_read_at places name first || is_read_at places name second)

-- and tells no more than what is read token by token
abbrev pub TestIsByToken : Type 0
TestIsByToken =
    (places : List FileToken) (name : Option (List ℕ)) (first second : List Read) → by_token first ≡ by_token second
    → is_read_at places name first ≡ is_read_at places name second
