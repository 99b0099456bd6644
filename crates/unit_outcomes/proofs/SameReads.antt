-- Two ways in which the expressions and the files of a project are read read the same tokens.
use Rattle.std.proofs.Common.{◌≡◌, ℕ, zero, suc, ◌≤◌, Bool, true, false, ℤ, List, [], ◌∷◌, ◌++◌, length, take, drop, Option, Some, None, refl, ap, sym, ◌∙◌}
use Rattle.std.specs.Prelude.{⊤}
use Rattle.c_text.specs.Token.{PlainToken}
use Rattle.c_text.specs.Lines.{PlainLine}
use Rattle.c_text.specs.Directives.{PlainDirective, include_line, directive_of}
use Rattle.c_text.specs.Trees.{Part, finish, breaks, text_lines, directive_line, group, broken_group, Branches, no_branch, branch, IsRead}
use Rattle.c_text.specs.Preprocessing.{Refusal, refused_token, refused_ignored, Reading, Flow, on, refused, read_run, tokens_of_lines, Condition, holds, fails, condition_at, Source, project_file, stdio, stdlib, source_of, Setting, read_directive, branched, read_part, read_branches, Sources, Syntax, IsSyntaxOf, setting, source_name, read_source, most_nested, at_start, file_at}
use Rattle.c_lexer.specs.Laws.{LinesAreOne}
use Rattle.active_tokens.specs.Reads.{Read, read_of, reads_behind, unless_refused, Following, included_reads, reads_of_inclusion, reads_of_directive, reads_of_passed, by_truth, reads_of_branch, reads_of_part, reads_of_branches}
use Rattle.active_tokens.specs.Active.{AreMisplaced, misplaced_in, following, reads_of_source}
use Rattle.file_walks.specs.Nests as nests
use Rattle.read_walks.proofs.Walks.{tokens_at, misplaced-is}
use Rattle.unit_outcomes.specs.Laws.{ReadsAreOne}
use Rattle.unit_outcomes.proofs.InRange.{IsFound, MayBeFound, source-found}
use Rattle.unit_outcomes.proofs.SameReadings.{DeeperSame, condition-same, directive-same, branched-same, part-same, branches-same}
use Rattle.unit_outcomes.proofs.Outcomes.{same-value, built-in, same-source, is_feature, source-same}

behind-same : (x y : Flow) (f g : Reading → List Read) → x ≡ y → ((r : Reading) → f r ≡ g r) → reads_behind x f ≡ reads_behind y g
behind-same x y f g e h = ap (λ z. reads_behind z f) e ∙ by y
  where
    by : (flow : Flow) → reads_behind flow f ≡ reads_behind flow g
    by (on r) = h r
    by (refused why) = refl

both-same : (a b c d : List Read) → a ≡ b → c ≡ d → a ++ c ≡ b ++ d
both-same a b c d e f = ap (λ l. l ++ c) e ∙ ap (λ l. b ++ l) f

-- included files read the same
abbrev DeeperReads : ℕ → Option (Source → Reading → List Read) → Option (Source → Reading → List Read) → Type 0
DeeperReads limit None None = ⊤
DeeperReads limit None (Some read) = ⊥
DeeperReads limit (Some read) None = ⊥
DeeperReads limit (Some read) (Some other) = (source : Source) → IsFound limit source → (r : Reading) → read source r ≡ other source r

module _ (value other : List PlainToken → Option ℤ) (same : (tokens : List PlainToken) → value tokens ≡ other tokens) (feature : List ℕ → Bool) (headers : List (List ℕ)) (name : List ℕ) (broken : Refusal) (deeper deeper' : Option (Source → Reading → Flow)) (limit : ℕ) (few : length headers ≤ limit) (same_deeper : DeeperSame limit deeper deeper') (misplaced : List PlainToken) (reads reads' : Option (Source → Reading → List Read)) (same_reads : DeeperReads limit reads reads') where
  abbrev s : Setting
  s = record { value_of = value; is_feature = feature; headers = headers; name = name; broken = broken; deeper = deeper }

  abbrev t : Setting
  t = record { value_of = other; is_feature = feature; headers = headers; name = name; broken = broken; deeper = deeper' }

  abbrev f : Following
  f = following misplaced reads

  abbrev g : Following
  g = following misplaced reads'

  included-reads : (r : Reading) (names : List PlainToken) (read read' : Option (Source → Reading → List Read)) (source : Option Source) → DeeperReads limit read read' → MayBeFound limit source → included_reads s f r names read source ≡ included_reads t g r names read' source
  included-reads r names read read' None d found = refl
  included-reads r names None None (Some source) d found = refl
  included-reads r names None (Some read) (Some source) d found = absurd d
  included-reads r names (Some read) None (Some source) d found = absurd d
  included-reads r names (Some read) (Some read') (Some source) d found = ap (unless_refused (refused_token names)) (d source found r)

  inclusion-reads : (r : Reading) (what : PlainDirective) → reads_of_inclusion s f r what ≡ reads_of_inclusion t g r what
  inclusion-reads r (include_line names) = included-reads r names reads reads' (source_of headers name names) same_reads (source-found limit headers name names few)
  inclusion-reads r other = refl

  passed-reads : (r : Reading) (others : Branches) → reads_of_passed s f r others ≡ reads_of_passed t g r others
  passed-reads r no_branch = refl
  passed-reads r (branch line body others) =
      ap (λ l. read_of r line.tokens ∷ unless_refused (refused_ignored (drop 2 line.tokens)) l) (passed-reads r others)

  truth-reads : (truth : Condition) (a b c d : List Read) → a ≡ b → c ≡ d → by_truth s f truth a c ≡ by_truth t g truth b d
  truth-reads (holds true) a b c d e h = e
  truth-reads (holds false) a b c d e h = h
  truth-reads (fails why) a b c d e h = refl

  part-flows : (part : Part) (r : Reading) → read_part s r part ≡ read_part t r part
  part-flows part r = part-same value other same feature headers name broken deeper deeper' limit few same_deeper part r

  branched-flows : (line : PlainLine) (body : Part) (others : Branches) (r : Reading) → branched s r line (read_part s r body) others (read_branches s r others) ≡ branched t r line (read_part t r body) others (read_branches t r others)
  branched-flows line body others r =
      branched-same value other same feature headers name broken deeper deeper' limit few same_deeper r line others (read_part s r body) (read_part t r body) (read_branches s r others) (read_branches t r others)
      (part-flows body r) (branches-same value other same feature headers name broken deeper deeper' limit few same_deeper others r)

  branch-reads : (line : PlainLine) (body : Part) (others : Branches) (r : Reading) (a b c d : List Read) → a ≡ b → c ≡ d → reads_of_branch s f r line body others a c ≡ reads_of_branch t g r line body others b d
  branch-reads line body others r a b c d e h =
      let behind = reads_behind (read_part s r body) (λ after. reads_of_passed s f after others) in
      let behind' = reads_behind (read_part t r body) (λ after. reads_of_passed t g after others) in
      ap (λ l. read_of r line.tokens ∷ l)
      (ap (λ truth. by_truth s f truth (a ++ behind) c) (condition-same value other same r.table line.tokens)
      ∙ truth-reads (condition_at other r.table line.tokens) (a ++ behind) (b ++ behind') c d
      (both-same a b behind behind' e (behind-same (read_part s r body) (read_part t r body) (λ after. reads_of_passed s f after others) (λ after. reads_of_passed t g after others) (part-flows body r) (λ after. passed-reads after others)))
      h)

  mutual
    part-reads : (part : Part) (r : Reading) → reads_of_part s f r part ≡ reads_of_part t g r part
    part-reads finish r = refl
    part-reads breaks r = refl
    part-reads (text_lines lines rest) r =
        ap (λ l. read_of r (tokens_of_lines lines) ∷ l)
        (behind-same (read_run r (tokens_of_lines lines)) (read_run r (tokens_of_lines lines)) (λ after. reads_of_part s f after rest) (λ after. reads_of_part t g after rest) refl (part-reads rest))
    part-reads (directive_line line rest) r =
        both-same (reads_of_directive s f r line.tokens) (reads_of_directive t g r line.tokens)
        (reads_behind (read_directive s r line.tokens) (λ after. reads_of_part s f after rest)) (reads_behind (read_directive t r line.tokens) (λ after. reads_of_part t g after rest))
        (ap (λ l. read_of r line.tokens ∷ l) (inclusion-reads r (directive_of line.tokens)))
        (behind-same (read_directive s r line.tokens) (read_directive t r line.tokens) (λ after. reads_of_part s f after rest) (λ after. reads_of_part t g after rest)
        (directive-same value other same feature headers name broken deeper deeper' limit few same_deeper r line.tokens) (part-reads rest))
    part-reads (group first body others last rest) r =
        let next : Reading → List Read = λ after. read_of after last.tokens ∷ unless_refused (refused_ignored (drop 2 last.tokens)) (reads_of_part s f after rest) in
        let next' : Reading → List Read = λ after. read_of after last.tokens ∷ unless_refused (refused_ignored (drop 2 last.tokens)) (reads_of_part t g after rest) in
        let flow = branched s r first (read_part s r body) others (read_branches s r others) in
        let flow' = branched t r first (read_part t r body) others (read_branches t r others) in
        both-same (reads_of_branch s f r first body others (reads_of_part s f r body) (reads_of_branches s f r others)) (reads_of_branch t g r first body others (reads_of_part t g r body) (reads_of_branches t g r others))
        (reads_behind flow next) (reads_behind flow' next')
        (branch-reads first body others r (reads_of_part s f r body) (reads_of_part t g r body) (reads_of_branches s f r others) (reads_of_branches t g r others) (part-reads body r) (branches-reads others r))
        (behind-same flow flow' next next' (branched-flows first body others r) (λ after. ap (λ l. read_of after last.tokens ∷ unless_refused (refused_ignored (drop 2 last.tokens)) l) (part-reads rest after)))
    part-reads (broken_group first body others) r =
        branch-reads first body others r (reads_of_part s f r body) (reads_of_part t g r body) (reads_of_branches s f r others) (reads_of_branches t g r others) (part-reads body r) (branches-reads others r)

    branches-reads : (others : Branches) (r : Reading) → reads_of_branches s f r others ≡ reads_of_branches t g r others
    branches-reads no_branch r = refl
    branches-reads (branch line body others) r =
        branch-reads line body others r (reads_of_part s f r body) (reads_of_part t g r body) (reads_of_branches s f r others) (reads_of_branches t g r others) (part-reads body r) (branches-reads others r)

-- the line at which a file breaks is told by its lines
misplaced-same : (lines others : List PlainLine) (part part' : Part) (is : IsRead lines part) (is' : IsRead others part') → lines ≡ others → misplaced_in is ≡ misplaced_in is'
misplaced-same lines others part part' is is' e =
    misplaced-is lines part is ∙ ap (λ ls. tokens_at (nests.misplaced_in [] ls)) e ∙ sym (misplaced-is others part' is')

module _ (one : LinesAreOne) (s : Sources) (x y : Syntax) (a : IsSyntaxOf s x) (b : IsSyntaxOf s y) (few : length s.headers ≤ length s.files) (misplaced misplaced' : Source → List PlainToken) (told : AreMisplaced a misplaced) (told' : AreMisplaced b misplaced') where
  same-misplaced : (source : Source) → IsFound (length s.files) source → misplaced source ≡ misplaced' source
  same-misplaced (project_file number) found =
      told.in_files number found
      ∙ misplaced-same (a.lines number) (b.lines number) _ _ (a.are_files number found).is_read (b.are_files number found).is_read
      (one number (file_at s number).bytes (a.lines number) (b.lines number) (a.are_lines number found) (b.are_lines number found))
      ∙ sym (told'.in_files number found)
  same-misplaced stdio found =
      told.in_stdio ∙ misplaced-same (take 5 a.built_in_lines) (take 5 b.built_in_lines) _ _ a.stdio_is.is_read b.stdio_is.is_read (ap (take 5) (built-in one s x y a b few)) ∙ sym told'.in_stdio
  same-misplaced stdlib found =
      told.in_stdlib ∙ misplaced-same (drop 5 a.built_in_lines) (drop 5 b.built_in_lines) _ _ a.stdlib_is.is_read b.stdlib_is.is_read (ap (drop 5) (built-in one s x y a b few)) ∙ sym told'.in_stdlib

  -- a source that is read so deep in the one way and in the other
  same-part : (source : Source) → IsFound (length s.files) source → (deeper deeper' : Option (Source → Reading → Flow)) (reads reads' : Option (Source → Reading → List Read)) → DeeperSame (length s.files) deeper deeper' → DeeperReads (length s.files) reads reads' → (r : Reading)
      → reads_of_part (setting s x source deeper) (following (misplaced source) reads) r (x.part_of source) ≡ reads_of_part (setting s y source deeper') (following (misplaced' source) reads') r (y.part_of source)
  same-part source found deeper deeper' reads reads' same_deeper same_reads r =
      let e = same-source one s x y a b few source found in
      let there = setting s y source deeper' in
      part-reads x.value_of y.value_of (same-value one s x y a b few) (is_feature one s x y a b few) s.headers (source_name s source) (x.broken_in source) deeper deeper' (length s.files) few same_deeper (misplaced source) reads reads' same_reads (x.part_of source) r
      ∙ ap (λ broken. reads_of_part (record there { broken = broken }) (following (misplaced source) reads') r (x.part_of source)) e.breaks_are
      ∙ ap (λ tokens. reads_of_part there (following tokens reads') r (x.part_of source)) (same-misplaced source found)
      ∙ ap (λ part. reads_of_part there (following (misplaced' source) reads') r part) e.parts

  reads-same : (n : ℕ) (source : Source) → IsFound (length s.files) source → (r : Reading) → reads_of_source s x misplaced n source r ≡ reads_of_source s y misplaced' n source r
  reads-same zero source found r = same-part source found None None None None tt tt r
  reads-same (suc n) source found r =
      same-part source found (Some (read_source s x n)) (Some (read_source s y n)) (Some (reads_of_source s x misplaced n)) (Some (reads_of_source s y misplaced' n)) (source-same one s x y a b few n) (reads-same n) r

pub reads-are-one : LinesAreOne → ReadsAreOne
reads-are-one one s number has x y a b misplaced others told told' =
    reads-same one s x y a b has.headers misplaced others told told' most_nested (project_file number) has.unit (at_start s)
