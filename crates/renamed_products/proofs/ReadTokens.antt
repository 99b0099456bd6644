-- What a unit reads are tokens of the lines of its files.
use Rattle.std.proofs.Common.{◌≡◌, ℕ, zero, suc, ◌<◌, ◌≤◌, true, false, List, [], ◌∷◌, ◌++◌, length, take, drop, Option, Some, None, refl, sym, subst}
use Rattle.std.specs.Prelude.{⊤}
use Rattle.std.specs.List.{AllByRecursion}
use Rattle.c_text.specs.Token.{PlainToken}
use Rattle.c_text.specs.Lines.{PlainLine}
use Rattle.c_text.specs.Directives.{PlainDirective, if_line, ifdef_line, ifndef_line, elif_line, else_line, endif_line, define_line, bad_define, undef_line, include_line, error_line, null_line, malformed, directive_of}
use Rattle.c_text.specs.Trees.{Part, finish, breaks, text_lines, directive_line, group, broken_group, Branches, no_branch, branch, lines_in, lines_of_branches, IsRead, whole_file, open_at_end, broken_at}
use Rattle.c_text.specs.Preprocessing.{Refusal, refused_token, refused_ignored, Reading, Flow, on, refused, read_run, tokens_of_lines, Condition, holds, fails, condition_at, Source, project_file, stdio, stdlib, source_of, Setting, read_directive, branched, read_part, read_branches, Sources, Syntax, IsSyntaxOf, setting, source_name, read_source, most_nested, at_start}
use Rattle.active_tokens.specs.Reads.{Read, read_of, reads_behind, unless_refused, Following, included_reads, reads_of_inclusion, reads_of_directive, reads_of_passed, by_truth, reads_of_branch, reads_of_part, reads_of_branches}
use Rattle.active_tokens.specs.Active.{AreMisplaced, following, reads_of_source, reads_of_unit, misplaced_in}
use Rattle.active_tokens.proofs.Everywhere.{each-append, each-left, each-right}
use Rattle.renamed_units.proofs.Files.{each-take, each-drop}
use Rattle.renamed_units.proofs.Sources.{IsThere, found-there}

module _ (P : PlainToken → Type 0) where
  abbrev pub Good : List PlainToken → Type 0
  Good tokens = AllByRecursion P tokens

  abbrev pub GoodLine : PlainLine → Type 0
  GoodLine line = Good line.tokens

  abbrev pub GoodLines : List PlainLine → Type 0
  GoodLines lines = AllByRecursion GoodLine lines

  abbrev pub GoodRead : Read → Type 0
  GoodRead read = Good read.tokens

  abbrev pub GoodReads : List Read → Type 0
  GoodReads reads = AllByRecursion GoodRead reads

  run-good : (lines : List PlainLine) → GoodLines lines → Good (tokens_of_lines lines)
  run-good [] a = tt
  run-good (line ∷ lines) a = each-append P line.tokens (tokens_of_lines lines) a.0 (run-good lines a.1)

  behind-good : (flow : Flow) (next : Reading → List Read) → ((r : Reading) → GoodReads (next r)) → GoodReads (reads_behind flow next)
  behind-good (on r) next k = k r
  behind-good (refused why) next k = tt

  unless-good : (found : Option Refusal) (reads : List Read) → GoodReads reads → GoodReads (unless_refused found reads)
  unless-good None reads g = g
  unless-good (Some why) reads g = tt

  -- ---- the lines of a file

  pub part-lines : (lines : List PlainLine) (part : Part) (is : IsRead lines part) → GoodLines lines → GoodLines (lines_in part) × Good (misplaced_in is)
  part-lines lines part (whole_file formed are) g = (subst GoodLines (sym are) g, tt)
  part-lines lines part (open_at_end formed ends are) g = (subst GoodLines (sym are) g, tt)
  part-lines lines part (broken_at line rest formed are misplaced) g =
      let all : GoodLines (lines_in part ++ line ∷ rest) = subst GoodLines are g in
      (each-left GoodLine (lines_in part) (line ∷ rest) all, (each-right GoodLine (lines_in part) (line ∷ rest) all).0)

  -- ---- parts

  module _ (There : Source → Type 0) (s : Setting) (f : Following) where
    abbrev pub GoodDeeper : Option (Source → Reading → List Read) → Type 0
    GoodDeeper None = ⊤
    GoodDeeper (Some reads) = (source : Source) → There source → (r : Reading) → GoodReads (reads source r)

    module _ (misplaced : Good f.misplaced) (deeper : GoodDeeper f.deeper) (found : (names : List PlainToken) (source : Source) → source_of s.headers s.name names ≡ Some source → There source) where
      included-good : (r : Reading) (names : List PlainToken) (more : Option (Source → Reading → List Read)) (source : Option Source) → GoodDeeper more → ((x : Source) → source ≡ Some x → There x) → GoodReads (included_reads s f r names more source)
      included-good r names more None g there = tt
      included-good r names None (Some source) g there = tt
      included-good r names (Some reads) (Some source) g there = unless-good (refused_token names) (reads source r) (g source (there source refl) r)

      inclusion-good : (r : Reading) (x : PlainDirective) → GoodReads (reads_of_inclusion s f r x)
      inclusion-good r (include_line names) = included-good r names f.deeper (source_of s.headers s.name names) deeper (found names)
      inclusion-good r (if_line tokens) = tt
      inclusion-good r (ifdef_line token) = tt
      inclusion-good r (ifndef_line token) = tt
      inclusion-good r (elif_line tokens) = tt
      inclusion-good r else_line = tt
      inclusion-good r endif_line = tt
      inclusion-good r (define_line m) = tt
      inclusion-good r bad_define = tt
      inclusion-good r (undef_line token) = tt
      inclusion-good r error_line = tt
      inclusion-good r null_line = tt
      inclusion-good r malformed = tt

      passed-good : (r : Reading) (others : Branches) → GoodLines (lines_of_branches others) → GoodReads (reads_of_passed s f r others)
      passed-good r no_branch g = tt
      passed-good r (branch line body others) g =
          (g.0, unless-good (refused_ignored (drop 2 line.tokens)) (reads_of_passed s f r others) (passed-good r others (each-right GoodLine (lines_in body) (lines_of_branches others) g.1)))

      truth-good : (c : Condition) (taken passed : List Read) → GoodReads taken → GoodReads passed → GoodReads (by_truth s f c taken passed)
      truth-good (holds true) taken passed g h = g
      truth-good (holds false) taken passed g h = h
      truth-good (fails why) taken passed g h = tt

      branch-good : (r : Reading) (line : PlainLine) (body : Part) (others : Branches) (taken passed : List Read) → GoodLine line → GoodLines (lines_of_branches others) → GoodReads taken → GoodReads passed → GoodReads (reads_of_branch s f r line body others taken passed)
      branch-good r line body others taken passed l o g h = (
        l,
        truth-good (condition_at s.value_of r.table line.tokens) (taken ++ reads_behind (read_part s r body) (λ after. reads_of_passed s f after others)) passed
            (each-append GoodRead taken (reads_behind (read_part s r body) (λ after. reads_of_passed s f after others)) g
            (behind-good (read_part s r body) (λ after. reads_of_passed s f after others) (λ after. passed-good after others o))) h,
      )

      mutual
        pub part-good : (r : Reading) (part : Part) → GoodLines (lines_in part) → GoodReads (reads_of_part s f r part)
        part-good r finish g = tt
        part-good r breaks g = (misplaced, tt)
        part-good r (text_lines lines rest) g = (
          run-good lines (each-left GoodLine lines (lines_in rest) g),
          behind-good (read_run r (tokens_of_lines lines)) (λ after. reads_of_part s f after rest) (λ after. part-good after rest (each-right GoodLine lines (lines_in rest) g)),
        )
        part-good r (directive_line line rest) g =
            each-append GoodRead (reads_of_directive s f r line.tokens) (reads_behind (read_directive s r line.tokens) (λ after. reads_of_part s f after rest))
            (g.0, inclusion-good r (directive_of line.tokens))
            (behind-good (read_directive s r line.tokens) (λ after. reads_of_part s f after rest) (λ after. part-good after rest g.1))
        part-good r (group first body others last rest) g =
            let before : GoodLines (lines_in body ++ lines_of_branches others) = each-left GoodLine (lines_in body ++ lines_of_branches others) (last ∷ lines_in rest) g.1 in
            let ending : GoodLines (last ∷ lines_in rest) = each-right GoodLine (lines_in body ++ lines_of_branches others) (last ∷ lines_in rest) g.1 in
            let between : GoodLines (lines_of_branches others) = each-right GoodLine (lines_in body) (lines_of_branches others) before in
            each-append GoodRead (reads_of_branch s f r first body others (reads_of_part s f r body) (reads_of_branches s f r others))
            (reads_behind (branched s r first (read_part s r body) others (read_branches s r others)) (λ after. read_of after last.tokens ∷ unless_refused (refused_ignored (drop 2 last.tokens)) (reads_of_part s f after rest)))
            (branch-good r first body others (reads_of_part s f r body) (reads_of_branches s f r others) g.0 between
            (part-good r body (each-left GoodLine (lines_in body) (lines_of_branches others) before)) (branches-good r others between))
            (behind-good (branched s r first (read_part s r body) others (read_branches s r others))
            (λ after. read_of after last.tokens ∷ unless_refused (refused_ignored (drop 2 last.tokens)) (reads_of_part s f after rest))
            (λ after. (ending.0, unless-good (refused_ignored (drop 2 last.tokens)) (reads_of_part s f after rest) (part-good after rest ending.1))))
        part-good r (broken_group first body others) g =
            let between : GoodLines (lines_of_branches others) = each-right GoodLine (lines_in body) (lines_of_branches others) g.1 in
            branch-good r first body others (reads_of_part s f r body) (reads_of_branches s f r others) g.0 between
            (part-good r body (each-left GoodLine (lines_in body) (lines_of_branches others) g.1)) (branches-good r others between)

        branches-good : (r : Reading) (others : Branches) → GoodLines (lines_of_branches others) → GoodReads (reads_of_branches s f r others)
        branches-good r no_branch g = tt
        branches-good r (branch line body others) g =
            let between : GoodLines (lines_of_branches others) = each-right GoodLine (lines_in body) (lines_of_branches others) g.1 in
            branch-good r line body others (reads_of_part s f r body) (reads_of_branches s f r others) g.0 between
            (part-good r body (each-left GoodLine (lines_in body) (lines_of_branches others) g.1)) (branches-good r others between)

  -- ---- files, however deep they are nested

  module _ (s : Sources) (x : Syntax) (misplaced : Source → List PlainToken) (enough : length s.headers ≤ length s.files) (files : (source : Source) → IsThere s source → GoodLines (lines_in (x.part_of source)) × Good (misplaced source)) where
    pub source-good : (n : ℕ) (source : Source) → IsThere s source → (r : Reading) → GoodReads (reads_of_source s x misplaced n source r)
    source-good zero source there r =
        part-good (IsThere s) (setting s x source None) (following (misplaced source) None) (files source there).1 tt
        (λ names found e. found-there s enough (source_name s source) names found e) r (x.part_of source) (files source there).0
    source-good (suc n) source there r =
        part-good (IsThere s) (setting s x source (Some (read_source s x n))) (following (misplaced source) (Some (reads_of_source s x misplaced n))) (files source there).1 (source-good n)
        (λ names found e. found-there s enough (source_name s source) names found e) r (x.part_of source) (files source there).0

  -- Where the lines of each file are good, so is what a unit reads.
  module _ (s : Sources) (x : Syntax) (are : IsSyntaxOf s x) (misplaced : Source → List PlainToken) (told : AreMisplaced are misplaced) (enough : length s.headers ≤ length s.files) (in_files : (number : ℕ) → number < length s.files → GoodLines (are.lines number)) (built_in : GoodLines are.built_in_lines) where
    files-good : (source : Source) → IsThere s source → GoodLines (lines_in (x.part_of source)) × Good (misplaced source)
    files-good (project_file number) there =
        let both = part-lines (are.lines number) (x.part_of (project_file number)) (are.are_files number there).is_read (in_files number there) in
        (both.0, subst Good (sym (told.in_files number there)) both.1)
    files-good stdio there =
        let both = part-lines (take 5 are.built_in_lines) (x.part_of stdio) are.stdio_is.is_read (each-take GoodLine 5 are.built_in_lines built_in) in
        (both.0, subst Good (sym told.in_stdio) both.1)
    files-good stdlib there =
        let both = part-lines (drop 5 are.built_in_lines) (x.part_of stdlib) are.stdlib_is.is_read (each-drop GoodLine 5 are.built_in_lines built_in) in
        (both.0, subst Good (sym told.in_stdlib) both.1)

    pub unit-good : (number : ℕ) → number < length s.files → GoodReads (reads_of_unit s x misplaced number)
    unit-good number there = source-good s x misplaced enough files-good most_nested (project_file number) there (at_start s)
