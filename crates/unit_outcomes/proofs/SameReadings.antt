-- Two ways in which the expressions and the files of a project are read give the same.
use Rattle.std.proofs.Common.{◌≡◌, ℕ, ◌≤◌, Bool, true, false, ℤ, List, [], ◌∷◌, length, drop, map, Option, Some, None, refl, ap, ◌∙◌}
use Rattle.std.specs.Prelude.{⊤}
use Rattle.c_text.specs.Token.{PlainToken}
use Rattle.c_text.specs.Lines.{PlainLine}
use Rattle.c_text.specs.Directives.{PlainDirective, if_line, ifdef_line, ifndef_line, elif_line, else_line, endif_line, define_line, bad_define, undef_line, include_line, error_line, null_line, malformed, directive_of}
use Rattle.c_text.specs.Macros.{Table, Replaced, fine, bad_call, replaced}
use Rattle.c_text.specs.Trees.{Part, finish, breaks, text_lines, directive_line, group, broken_group, Branches, no_branch, branch}
use Rattle.c_text.specs.Preprocessing.{Refusal, refused_token, refused_ignored, Reading, Flow, on, refused, then_read, unless, read_run, tokens_of_lines, tests_replaced, Condition, holds, fails, by_value, by_replaced, by_tests, line_condition, condition_at, Source, source_of, Setting, included, directed, read_directive, by_condition, skip, branched, read_part, read_branches}
use Rattle.unit_outcomes.proofs.InRange.{IsFound, MayBeFound, source-found}

then-same : (x y : Flow) (f g : Reading → Flow) → x ≡ y → ((r : Reading) → f r ≡ g r) → then_read x f ≡ then_read y g
then-same x y f g e h = ap (λ z. then_read z f) e ∙ by y
  where
    by : (flow : Flow) → then_read flow f ≡ then_read flow g
    by (on r) = h r
    by (refused why) = refl

-- included files are read alike
abbrev pub DeeperSame : ℕ → Option (Source → Reading → Flow) → Option (Source → Reading → Flow) → Type 0
DeeperSame limit None None = ⊤
DeeperSame limit None (Some read) = ⊥
DeeperSame limit (Some read) None = ⊥
DeeperSame limit (Some read) (Some other) = (source : Source) → IsFound limit source → (r : Reading) → read source r ≡ other source r

module _ (value other : List PlainToken → Option ℤ) (same : (tokens : List PlainToken) → value tokens ≡ other tokens) where
  replaced-same : (hash : PlainToken) (found : Option Refusal) (what : Replaced) → by_replaced value hash found what ≡ by_replaced other hash found what
  replaced-same hash found (fine items) = ap (by_value hash found) (same (map (λ item. item.token) items))
  replaced-same hash found (bad_call name) = refl

  tests-same : (table : Table) (hash : PlainToken) (found : Option Refusal) (tokens : Option (List PlainToken)) → by_tests value table hash found tokens ≡ by_tests other table hash found tokens
  tests-same table hash found None = refl
  tests-same table hash found (Some tokens) = replaced-same hash found (replaced table tokens)

  line-same : (table : Table) (hash : PlainToken) (tokens : List PlainToken) (what : PlainDirective) → line_condition value table hash tokens what ≡ line_condition other table hash tokens what
  line-same table hash tokens (if_line expression) = tests-same table hash (refused_token expression) (tests_replaced table 0 expression)
  line-same table hash tokens (elif_line expression) = tests-same table hash (refused_token expression) (tests_replaced table 0 expression)
  line-same table hash tokens (ifdef_line name) = refl
  line-same table hash tokens (ifndef_line name) = refl
  line-same table hash tokens else_line = refl
  line-same table hash tokens endif_line = refl
  line-same table hash tokens (define_line m) = refl
  line-same table hash tokens bad_define = refl
  line-same table hash tokens (undef_line name) = refl
  line-same table hash tokens (include_line names) = refl
  line-same table hash tokens error_line = refl
  line-same table hash tokens null_line = refl
  line-same table hash tokens malformed = refl

  pub condition-same : (table : Table) (tokens : List PlainToken) → condition_at value table tokens ≡ condition_at other table tokens
  condition-same table [] = refl
  condition-same table (hash ∷ rest) = line-same table hash (hash ∷ rest) (directive_of (hash ∷ rest))

  module _ (is_feature : List ℕ → Bool) (headers : List (List ℕ)) (name : List ℕ) (broken : Refusal) (deeper deeper' : Option (Source → Reading → Flow)) (limit : ℕ) (few : length headers ≤ limit) (same_deeper : DeeperSame limit deeper deeper') where
    abbrev s : Setting
    s = record { value_of = value; is_feature = is_feature; headers = headers; name = name; broken = broken; deeper = deeper }

    abbrev t : Setting
    t = record { value_of = other; is_feature = is_feature; headers = headers; name = name; broken = broken; deeper = deeper' }

    included-same : (r : Reading) (hash : PlainToken) (names : List PlainToken) (read read' : Option (Source → Reading → Flow)) (source : Option Source) → DeeperSame limit read read' → MayBeFound limit source → included s r hash names read source ≡ included t r hash names read' source
    included-same r hash names read read' None d found = refl
    included-same r hash names None None (Some source) d found = refl
    included-same r hash names None (Some read) (Some source) d found = absurd d
    included-same r hash names (Some read) None (Some source) d found = absurd d
    included-same r hash names (Some read) (Some read') (Some source) d found = ap (unless (refused_token names)) (d source found r)

    directed-same : (r : Reading) (hash : PlainToken) (tokens : List PlainToken) (what : PlainDirective) → directed s r hash tokens what ≡ directed t r hash tokens what
    directed-same r hash tokens (define_line m) = refl
    directed-same r hash tokens (undef_line word) = refl
    directed-same r hash tokens (include_line names) = included-same r hash names deeper deeper' (source_of headers name names) same_deeper (source-found limit headers name names few)
    directed-same r hash tokens bad_define = refl
    directed-same r hash tokens error_line = refl
    directed-same r hash tokens null_line = refl
    directed-same r hash tokens (if_line names) = refl
    directed-same r hash tokens (ifdef_line word) = refl
    directed-same r hash tokens (ifndef_line word) = refl
    directed-same r hash tokens (elif_line names) = refl
    directed-same r hash tokens else_line = refl
    directed-same r hash tokens endif_line = refl
    directed-same r hash tokens malformed = refl

    pub directive-same : (r : Reading) (tokens : List PlainToken) → read_directive s r tokens ≡ read_directive t r tokens
    directive-same r [] = refl
    directive-same r (hash ∷ rest) = directed-same r hash (hash ∷ rest) (directive_of (hash ∷ rest))

    skip-same : (r : Reading) (others : Branches) → skip s r others ≡ skip t r others
    skip-same r no_branch = refl
    skip-same r (branch line body others) = ap (unless (refused_ignored (drop 2 line.tokens))) (skip-same r others)

    chosen-same : (truth : Condition) (a b c d : Flow) → a ≡ b → c ≡ d → by_condition s truth a c ≡ by_condition t truth b d
    chosen-same (holds true) a b c d e f = e
    chosen-same (holds false) a b c d e f = f
    chosen-same (fails why) a b c d e f = refl

    pub branched-same : (r : Reading) (line : PlainLine) (others : Branches) (a b c d : Flow) → a ≡ b → c ≡ d → branched s r line a others c ≡ branched t r line b others d
    branched-same r line others a b c d e f =
        ap (λ truth. by_condition s truth (then_read a (λ after. skip s after others)) c) (condition-same r.table line.tokens)
        ∙ chosen-same (condition_at other r.table line.tokens) (then_read a (λ after. skip s after others)) (then_read b (λ after. skip t after others)) c d
        (then-same a b (λ after. skip s after others) (λ after. skip t after others) e (λ after. skip-same after others)) f

    mutual
      pub part-same : (part : Part) (r : Reading) → read_part s r part ≡ read_part t r part
      part-same finish r = refl
      part-same breaks r = refl
      part-same (text_lines lines rest) r =
          then-same (read_run r (tokens_of_lines lines)) (read_run r (tokens_of_lines lines)) (λ after. read_part s after rest) (λ after. read_part t after rest) refl (part-same rest)
      part-same (directive_line line rest) r =
          then-same (read_directive s r line.tokens) (read_directive t r line.tokens) (λ after. read_part s after rest) (λ after. read_part t after rest) (directive-same r line.tokens) (part-same rest)
      part-same (group first body others last rest) r =
          then-same (branched s r first (read_part s r body) others (read_branches s r others)) (branched t r first (read_part t r body) others (read_branches t r others))
          (λ after. unless (refused_ignored (drop 2 last.tokens)) (read_part s after rest)) (λ after. unless (refused_ignored (drop 2 last.tokens)) (read_part t after rest))
          (branched-same r first others (read_part s r body) (read_part t r body) (read_branches s r others) (read_branches t r others) (part-same body r) (branches-same others r))
          (λ after. ap (unless (refused_ignored (drop 2 last.tokens))) (part-same rest after))
      part-same (broken_group first body others) r =
          then-same (branched s r first (read_part s r body) others (read_branches s r others)) (branched t r first (read_part t r body) others (read_branches t r others))
          (λ after. refused broken) (λ after. refused broken)
          (branched-same r first others (read_part s r body) (read_part t r body) (read_branches s r others) (read_branches t r others) (part-same body r) (branches-same others r))
          (λ after. refl)

      pub branches-same : (others : Branches) (r : Reading) → read_branches s r others ≡ read_branches t r others
      branches-same no_branch r = refl
      branches-same (branch line body others) r =
          branched-same r line others (read_part s r body) (read_part t r body) (read_branches s r others) (read_branches t r others) (part-same body r) (branches-same others r)
