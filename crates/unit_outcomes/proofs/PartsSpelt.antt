-- What a file gives is spelt as its kinds say where its lines are, and what was given before.
use Rattle.std.proofs.Common.{ℕ, ◌≤◌, true, false, List, [], ◌∷◌, ◌++◌, length, drop, Option, Some, None, sym, subst}
use Rattle.std.specs.Prelude.{⊤}
use Rattle.c_text.specs.Token.{PlainToken}
use Rattle.c_text.specs.Lines.{PlainLine}
use Rattle.c_text.specs.Directives.{PlainDirective, if_line, ifdef_line, ifndef_line, elif_line, else_line, endif_line, define_line, bad_define, undef_line, include_line, error_line, null_line, malformed, directive_of}
use Rattle.c_text.specs.Trees.{Part, finish, breaks, text_lines, directive_line, group, broken_group, Branches, no_branch, branch, lines_in, lines_of_branches, IsRead, whole_file, open_at_end, broken_at}
use Rattle.c_text.specs.Preprocessing.{refused_token, refused_ignored, Reading, Flow, on, refused, then_read, read_run, tokens_of_lines, Condition, holds, fails, condition_at, meaning, Source, source_of, Setting, included, directed, read_directive, by_condition, skip, branched, read_part, read_branches}
use Rattle.active_tokens.proofs.Everywhere.{each-append, each-left, each-right, by-choice}
use Rattle.active_tokens.proofs.Replacing.{Tokens}
use Rattle.active_tokens.proofs.Reading.{GoodReading, GoodFlow, GoodDirective, run-good, directive-good, unless-good, put-good, meaning-good, redefined-good, end-good}
use Rattle.unit_outcomes.proofs.LinesSpelt.{Spelt, SpeltLine, SpeltLines}
use Rattle.unit_outcomes.proofs.InRange.{IsFound, MayBeFound, source-found}

abbrev pub GivesSpelt : Flow → Type 0
GivesSpelt flow = GoodFlow Spelt flow

abbrev pub HasSpelt : Reading → Type 0
HasSpelt r = GoodReading Spelt r

-- what included files give is spelt so
abbrev pub DeeperSpelt : ℕ → Option (Source → Reading → Flow) → Type 0
DeeperSpelt limit None = ⊤
DeeperSpelt limit (Some read) = (source : Source) → IsFound limit source → (r : Reading) → HasSpelt r → GivesSpelt (read source r)

run-tokens : (lines : List PlainLine) → SpeltLines lines → Tokens Spelt (tokens_of_lines lines)
run-tokens [] h = tt
run-tokens (line ∷ lines) h = each-append _ line.tokens (tokens_of_lines lines) h.0 (run-tokens lines h.1)

then-spelt : (flow : Flow) (next : Reading → Flow) → GivesSpelt flow → ((r : Reading) → HasSpelt r → GivesSpelt (next r)) → GivesSpelt (then_read flow next)
then-spelt (on r) next g keeps = keeps r g
then-spelt (refused why) next g keeps = tt

module _ (s : Setting) (limit : ℕ) (few : length s.headers ≤ limit) (deeper : DeeperSpelt limit s.deeper) where
  included-spelt : (r : Reading) (hash : PlainToken) (names : List PlainToken) (read : Option (Source → Reading → Flow)) (source : Option Source) → DeeperSpelt limit read → MayBeFound limit source → HasSpelt r → GivesSpelt (included s r hash names read source)
  included-spelt r hash names read None d found g = tt
  included-spelt r hash names None (Some source) d found g = tt
  included-spelt r hash names (Some read) (Some source) d found g = unless-good Spelt (refused_token names) (read source r) (d source found r g)

  directed-spelt : (r : Reading) (hash : PlainToken) (tokens : List PlainToken) (what : PlainDirective) → HasSpelt r → GoodDirective Spelt what → GivesSpelt (directed s r hash tokens what)
  directed-spelt r hash tokens (define_line m) g b =
      by-choice GivesSpelt (s.is_feature m.name) _ _ tt
      (redefined-good Spelt r hash (refused_token (drop 2 tokens)) m.name (r.table m.name) (meaning m m.params) g (meaning-good Spelt m m.params b))
  directed-spelt r hash tokens (undef_line name) g b =
      by-choice GivesSpelt (s.is_feature name.text) _ _ tt
      (unless-good Spelt (refused_ignored (drop 3 tokens)) _ (record { table = put-good Spelt r.table name.text None g.table tt; tokens = g.tokens }))
  directed-spelt r hash tokens (include_line names) g b =
      included-spelt r hash names s.deeper (source_of s.headers s.name names) deeper (source-found limit s.headers s.name names few) g
  directed-spelt r hash tokens bad_define g b = tt
  directed-spelt r hash tokens error_line g b = tt
  directed-spelt r hash tokens null_line g b = g
  directed-spelt r hash tokens (if_line names) g b = tt
  directed-spelt r hash tokens (ifdef_line name) g b = tt
  directed-spelt r hash tokens (ifndef_line name) g b = tt
  directed-spelt r hash tokens (elif_line names) g b = tt
  directed-spelt r hash tokens else_line g b = tt
  directed-spelt r hash tokens endif_line g b = tt
  directed-spelt r hash tokens malformed g b = tt

  directive-spelt : (r : Reading) (tokens : List PlainToken) → HasSpelt r → Tokens Spelt tokens → GivesSpelt (read_directive s r tokens)
  directive-spelt r [] g b = g
  directive-spelt r (hash ∷ rest) g b = directed-spelt r hash (hash ∷ rest) (directive_of (hash ∷ rest)) g (directive-good Spelt (hash ∷ rest) b)

  skip-spelt : (r : Reading) (others : Branches) → HasSpelt r → GivesSpelt (skip s r others)
  skip-spelt r no_branch g = g
  skip-spelt r (branch line body others) g = unless-good Spelt (refused_ignored (drop 2 line.tokens)) (skip s r others) (skip-spelt r others g)

  condition-spelt : (truth : Condition) (body others : Flow) → GivesSpelt body → GivesSpelt others → GivesSpelt (by_condition s truth body others)
  condition-spelt (holds true) body others b o = b
  condition-spelt (holds false) body others b o = o
  condition-spelt (fails why) body others b o = tt

  branched-spelt : (r : Reading) (line : PlainLine) (body : Flow) (others : Branches) (passed : Flow) → GivesSpelt body → GivesSpelt passed → GivesSpelt (branched s r line body others passed)
  branched-spelt r line body others passed b p =
      condition-spelt (condition_at s.value_of r.table line.tokens) (then_read body (λ after. skip s after others)) passed
      (then-spelt body (λ after. skip s after others) b (λ after h. skip-spelt after others h)) p

  mutual
    pub part-spelt : (part : Part) → SpeltLines (lines_in part) → (r : Reading) → HasSpelt r → GivesSpelt (read_part s r part)
    part-spelt finish h r g = g
    part-spelt breaks h r g = tt
    part-spelt (text_lines lines rest) h r g =
        then-spelt (read_run r (tokens_of_lines lines)) (λ after. read_part s after rest)
        (run-good Spelt r (tokens_of_lines lines) g (run-tokens lines (each-left SpeltLine lines (lines_in rest) h)))
        (part-spelt rest (each-right SpeltLine lines (lines_in rest) h))
    part-spelt (directive_line line rest) h r g =
        then-spelt (read_directive s r line.tokens) (λ after. read_part s after rest) (directive-spelt r line.tokens g h.0) (part-spelt rest h.1)
    part-spelt (group first body others last rest) h r g =
        let inner = each-left SpeltLine (lines_in body ++ lines_of_branches others) (last ∷ lines_in rest) h.1 in
        let outer = each-right SpeltLine (lines_in body ++ lines_of_branches others) (last ∷ lines_in rest) h.1 in
        then-spelt (branched s r first (read_part s r body) others (read_branches s r others)) _
        (branched-spelt r first (read_part s r body) others (read_branches s r others) (part-spelt body (each-left SpeltLine (lines_in body) (lines_of_branches others) inner) r g) (branches-spelt others (each-right SpeltLine (lines_in body) (lines_of_branches others) inner) r g))
        (λ after k. unless-good Spelt (refused_ignored (drop 2 last.tokens)) (read_part s after rest) (part-spelt rest outer.1 after k))
    part-spelt (broken_group first body others) h r g =
        end-good Spelt (branched s r first (read_part s r body) others (read_branches s r others)) s.broken

    pub branches-spelt : (others : Branches) → SpeltLines (lines_of_branches others) → (r : Reading) → HasSpelt r → GivesSpelt (read_branches s r others)
    branches-spelt no_branch h r g = g
    branches-spelt (branch line body others) h r g =
        branched-spelt r line (read_part s r body) others (read_branches s r others) (part-spelt body (each-left SpeltLine (lines_in body) (lines_of_branches others) h.1) r g) (branches-spelt others (each-right SpeltLine (lines_in body) (lines_of_branches others) h.1) r g)

-- the lines of a part are among those of its file
pub read-spelt : (lines : List PlainLine) (part : Part) → IsRead lines part → SpeltLines lines → SpeltLines (lines_in part)
read-spelt lines part (whole_file formed are) h = subst SpeltLines (sym are) h
read-spelt lines part (open_at_end formed ends are) h = subst SpeltLines (sym are) h
read-spelt lines part (broken_at line rest formed are misplaced) h = each-left SpeltLine (lines_in part) (line ∷ rest) (subst SpeltLines are h)
