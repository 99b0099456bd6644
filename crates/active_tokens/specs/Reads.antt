-- What a unit reads outside every skipped group in one configuration (ISO/IEC 9899:2011, 6.10.1): runs of text lines and directive
-- lines, each with the macros that are defined there. It follows the reading of files step by step, and ends where that ends.
use Rattle.std.specs.Prelude.{true, false, List, [], ◌∷◌, ◌++◌, drop, Option, Some, None}
use Rattle.c_text.specs.Token.{PlainToken}
use Rattle.c_text.specs.Lines.{PlainLine}
use Rattle.c_text.specs.Directives.{PlainDirective, include_line, directive_of}
use Rattle.c_text.specs.Macros.{Table}
use Rattle.c_text.specs.Trees.{Part, finish, breaks, text_lines, directive_line, group, broken_group, Branches, no_branch, branch}
use Rattle.c_text.specs.Preprocessing.{Refusal, refused_token, refused_ignored, Reading, Flow, on, refused, tokens_of_lines, read_run, Condition, holds, fails, condition_at, Source, source_of, Setting, read_directive, branched, read_part, read_branches}

-- tokens that are read together, and the macros that are defined then
pub record Read : Type 0 where
  pub tokens : List PlainToken
  pub table : Table

abbrev pub read_of : Reading → List PlainToken → Read
read_of r tokens = record { tokens = tokens; table = r.table }

-- what is read behind a reading that may have been refused
abbrev pub reads_behind : Flow → (Reading → List Read) → List Read
reads_behind (on r) next = next r
reads_behind (refused why) next = []

-- nothing where there is a refusal
abbrev pub unless_refused : Option Refusal → List Read → List Read
unless_refused None reads = reads
unless_refused (Some why) reads = []

-- how it is followed what files read
pub record Following : Type 0 where
  -- the tokens of the conditional line that fits no group, if the file breaks at one
  pub misplaced : List PlainToken
  -- what an included file reads, if one may still be included
  pub deeper : Option (Source → Reading → List Read)

module _ (s : Setting) (f : Following) where
  abbrev pub included_reads : Reading → List PlainToken → Option (Source → Reading → List Read) → Option Source → List Read
  included_reads r names deeper None = []
  included_reads r names None (Some source) = []
  included_reads r names (Some reads) (Some source) = unless_refused (refused_token names) (reads source r)

  abbrev pub reads_of_inclusion : Reading → PlainDirective → List Read
  reads_of_inclusion r (include_line names) = included_reads r names f.deeper (source_of s.headers s.name names)
  reads_of_inclusion r other = []

  -- a directive line, and what it includes
  abbrev pub reads_of_directive : Reading → List PlainToken → List Read
  reads_of_directive r tokens = read_of r tokens ∷ reads_of_inclusion r (directive_of tokens)

  -- the lines of the branches behind the one that was taken, up to one that is refused
  abbrev pub reads_of_passed : Reading → Branches → List Read
  reads_of_passed r no_branch = []
  reads_of_passed r (branch line body others) =
      read_of r line.tokens ∷ unless_refused (refused_ignored (drop 2 line.tokens)) (reads_of_passed r others)

  abbrev pub by_truth : Condition → List Read → List Read → List Read
  by_truth (holds true) taken passed = taken
  by_truth (holds false) taken passed = passed
  by_truth (fails why) taken passed = []

  -- a branch by its line, with what its body reads, or what the other branches read
  abbrev pub reads_of_branch : Reading → PlainLine → Part → Branches → List Read → List Read → List Read
  reads_of_branch r line body others taken passed =
      read_of r line.tokens
      ∷ by_truth (condition_at s.value_of r.table line.tokens)
      (taken ++ reads_behind (read_part s r body) (λ after. reads_of_passed after others)) passed

  abbrev mutual
    pub reads_of_part : Reading → Part → List Read
    reads_of_part r finish = []
    reads_of_part r breaks = read_of r f.misplaced ∷ []
    reads_of_part r (text_lines lines rest) =
        read_of r (tokens_of_lines lines) ∷ reads_behind (read_run r (tokens_of_lines lines)) (λ after. reads_of_part after rest)
    reads_of_part r (directive_line line rest) =
        reads_of_directive r line.tokens ++ reads_behind (read_directive s r line.tokens) (λ after. reads_of_part after rest)
    reads_of_part r (group first body others last rest) =
        reads_of_branch r first body others (reads_of_part r body) (reads_of_branches r others)
        ++ reads_behind (branched s r first (read_part s r body) others (read_branches s r others))
        (λ after. read_of after last.tokens ∷ unless_refused (refused_ignored (drop 2 last.tokens)) (reads_of_part after rest))
    reads_of_part r (broken_group first body others) =
        reads_of_branch r first body others (reads_of_part r body) (reads_of_branches r others)

    pub reads_of_branches : Reading → Branches → List Read
    reads_of_branches r no_branch = []
    reads_of_branches r (branch line body others) =
        reads_of_branch r line body others (reads_of_part r body) (reads_of_branches r others)
