-- What a file gives has each property that what it reads and what was given before have.
use Rattle.std.proofs.Common.{ℕ, Bool, true, false, ◌||◌, ◌&&◌, List, [], ◌∷◌, ◌++◌, map, drop, Option, Some, None, codes}
use Rattle.std.specs.Prelude.{⊤}
use Rattle.std.specs.List.{AllByRecursion, list_any}
use Rattle.std.specs.Str.{bytes_eq}
use Rattle.text_edits.specs.Span.{PlainSpan}
use Rattle.c_text.specs.declared.token.TokenKind.{TokenKind}
use Rattle.c_text.specs.Token.{PlainToken}
use Rattle.c_text.specs.Lines.{PlainLine}
use Rattle.c_text.specs.Directives.{PlainMacro, PlainDirective, if_line, ifdef_line, ifndef_line, elif_line, else_line, endif_line, define_line, bad_define, undef_line, include_line, error_line, null_line, malformed, is_spelled, is_word, is_fixed_name, is_barred, has_repetition, Parameters, parameters, with_name, behind_dots, at_parameter, behind_parameter, parameters_of, in_body, macro_line, function_like, definition, by_word, removal, inclusion, ends_with_angle, is_text_kind, directive_of}
use Rattle.c_text.specs.Macros.{Meaning, Table, Item, Replaced, fine, bad_call, replaced}
use Rattle.c_text.specs.Trees.{Part, finish, breaks, text_lines, directive_line, group, broken_group, Branches, no_branch, branch}
use Rattle.c_text.specs.Preprocessing.{Refusal, refused_token, refused_ignored, Reading, Flow, on, refused, then_read, unless, emitted, read_run, tokens_of_lines, Condition, holds, fails, condition_at, meaning, put, same_meaning, redefined, Source, source_of, Setting, included, directed, read_directive, by_condition, skip, branched, read_part, read_branches}
use Rattle.active_tokens.specs.Reads.{Read, reads_behind, unless_refused, Following, included_reads, reads_of_inclusion, reads_of_passed, by_truth, reads_of_branch, reads_of_part, reads_of_branches}
use Rattle.active_tokens.proofs.Everywhere.{each-append, each-left, each-right, each-map, by-choice}
use Rattle.active_tokens.proofs.Replacing.{Comes, ComesItem, Tokens, Items, GoodMeaning, GoodFound, GoodTable, GoodReplaced, replaced-good}

module _ (Q : TokenKind → List ℕ → ℕ → PlainSpan → Type 0) where
  pub record GoodReading (r : Reading) : Type 0 where
    pub table : GoodTable Q r.table
    pub tokens : Tokens Q r.tokens

  abbrev pub GoodFlow : Flow → Type 0
  GoodFlow (on r) = GoodReading r
  GoodFlow (refused why) = ⊤

  -- all tokens that are read
  abbrev pub GoodReads : List Read → Type 0
  GoodReads reads = AllByRecursion (λ read. Tokens Q read.tokens) reads

  -- ---- runs

  given : (items : List Item) → Items Q items → Tokens Q (map (λ item. item.token) items)
  given items a = each-map (Comes Q) (ComesItem Q) (λ item. item.token) (λ item x. x) items a

  emitted-good : (r : Reading) (tokens : List PlainToken) (found : Option Refusal) (what : Replaced) → GoodReading r → GoodReplaced Q what → GoodFlow (emitted r tokens found what)
  emitted-good r tokens (Some why) (fine items) g a = tt
  emitted-good r tokens None (fine items) g a =
      record { table = g.table; tokens = each-append (Comes Q) r.tokens (map (λ item. item.token) items) g.tokens (given items a) }
  emitted-good r tokens None (bad_call name) g a = tt
  emitted-good r tokens (Some why) (bad_call name) g a = tt

  pub run-good : (r : Reading) (tokens : List PlainToken) → GoodReading r → Tokens Q tokens → GoodFlow (read_run r tokens)
  run-good r tokens g a =
      emitted-good r tokens (refused_token tokens) (replaced r.table tokens) g (replaced-good Q r.table tokens g.table a)

  -- ---- bodies of macros

  abbrev GoodParameters : Option Parameters → Type 0
  GoodParameters None = ⊤
  GoodParameters (Some p) = Tokens Q p.body

  with-name-good : (name : List ℕ) (p : Option Parameters) → GoodParameters p → GoodParameters (with_name name p)
  with-name-good name None a = tt
  with-name-good name (Some p) a = a

  dots-good : (tokens : List PlainToken) → Tokens Q tokens → GoodParameters (behind_dots tokens)
  dots-good [] a = tt
  dots-good (token ∷ rest) a =
      by-choice GoodParameters (is_spelled (codes ")") token) (Some (parameters [] true rest)) None a.1 tt

  mutual
    at-parameter-good : (tokens : List PlainToken) → Tokens Q tokens → GoodParameters (at_parameter tokens)
    at-parameter-good [] a = tt
    at-parameter-good (token ∷ rest) a =
        by-choice GoodParameters (is_spelled (codes "...") token) (behind_dots rest) _ (dots-good rest a.1)
        (by-choice GoodParameters (is_word token) (with_name token.text (behind_parameter rest)) None
        (with-name-good token.text (behind_parameter rest) (behind-parameter-good rest a.1)) tt)

    behind-parameter-good : (tokens : List PlainToken) → Tokens Q tokens → GoodParameters (behind_parameter tokens)
    behind-parameter-good [] a = tt
    behind-parameter-good (token ∷ rest) a =
        by-choice GoodParameters (is_spelled (codes ")") token) (Some (parameters [] false rest)) _ a.1
        (by-choice GoodParameters (is_spelled (codes ",") token) (at_parameter rest) None (at-parameter-good rest a.1) tt)

  parameters-good : (tokens : List PlainToken) → Tokens Q tokens → GoodParameters (parameters_of tokens)
  parameters-good [] a = tt
  parameters-good (token ∷ rest) a =
      by-choice GoodParameters (is_spelled (codes ")") token) (Some (parameters [] false rest)) (at_parameter (token ∷ rest)) a.1
      (at-parameter-good (token ∷ rest) a)

  abbrev pub GoodDirective : PlainDirective → Type 0
  GoodDirective (define_line m) = Tokens Q m.body
  GoodDirective other = ⊤

  macro-line-good : (bad : Bool) (name : PlainToken) (params : Option (List (List ℕ))) (body : List PlainToken) → Tokens Q body → GoodDirective (macro_line bad name params body)
  macro-line-good bad name params body a =
      by-choice GoodDirective (bad || is_fixed_name name || list_any is_barred body) bad_define _ tt
      (each-map (Comes Q) (Comes Q) in_body (λ token x. x) body a)

  function-like-good : (name : PlainToken) (p : Option Parameters) → GoodParameters p → GoodDirective (function_like name p)
  function-like-good name None a = tt
  function-like-good name (Some p) a = macro-line-good (p.variadic || has_repetition p.names) name (Some p.names) p.body a

  definition-good : (name : PlainToken) (rest : List PlainToken) → Tokens Q rest → GoodDirective (definition name rest)
  definition-good name [] a = macro-line-good false name None [] tt
  definition-good name (token ∷ rest) a =
      by-choice GoodDirective (is_spelled (codes "(") token && token.joined) (function_like name (parameters_of rest)) (macro_line false name None (token ∷ rest))
      (function-like-good name (parameters_of rest) (parameters-good rest a.1)) (macro-line-good false name None (token ∷ rest) a)

  by-word-good : (make : PlainToken → List PlainToken → PlainDirective) → ((token : PlainToken) (rest : List PlainToken) → Tokens Q rest → GoodDirective (make token rest)) → (rest : List PlainToken) → Tokens Q rest → GoodDirective (by_word make rest)
  by-word-good make keeps [] a = tt
  by-word-good make keeps (token ∷ rest) a = by-choice GoodDirective (is_word token) (make token rest) malformed (keeps token rest a.1) tt

  inclusion-good : (rest : List PlainToken) → GoodDirective (inclusion rest)
  inclusion-good [] = tt
  inclusion-good (only ∷ []) = by-choice GoodDirective (is_text_kind only.kind) (include_line (only ∷ [])) malformed tt tt
  inclusion-good (first ∷ second ∷ rest) =
      by-choice GoodDirective (is_spelled (codes "<") first && ends_with_angle (second ∷ rest)) (include_line (first ∷ second ∷ rest)) malformed tt tt

  pub directive-good : (tokens : List PlainToken) → Tokens Q tokens → GoodDirective (directive_of tokens)
  directive-good [] a = tt
  directive-good (hash ∷ []) a = tt
  directive-good (hash ∷ name ∷ rest) a =
      by-choice GoodDirective (is_spelled (codes "if") name) (if_line rest) _ tt
      (by-choice GoodDirective (is_spelled (codes "ifdef") name) (by_word (λ token more. ifdef_line token) rest) _
      (by-word-good (λ token more. ifdef_line token) (λ token more x. tt) rest a.1.1)
      (by-choice GoodDirective (is_spelled (codes "ifndef") name) (by_word (λ token more. ifndef_line token) rest) _
      (by-word-good (λ token more. ifndef_line token) (λ token more x. tt) rest a.1.1)
      (by-choice GoodDirective (is_spelled (codes "elif") name) (elif_line rest) _ tt
      (by-choice GoodDirective (is_spelled (codes "else") name) else_line _ tt
      (by-choice GoodDirective (is_spelled (codes "endif") name) endif_line _ tt
      (by-choice GoodDirective (is_spelled (codes "define") name) (by_word definition rest) _
      (by-word-good definition definition-good rest a.1.1)
      (by-choice GoodDirective (is_spelled (codes "undef") name) (by_word removal rest) _
      (by-word-good removal (λ token more x. by-choice GoodDirective (is_fixed_name token) bad_define (undef_line token) tt tt) rest a.1.1)
      (by-choice GoodDirective (is_spelled (codes "include") name) (inclusion rest) _ (inclusion-good rest)
      (by-choice GoodDirective (is_spelled (codes "error") name) error_line malformed tt tt)))))))))

  -- ---- directive lines

  pub unless-good : (found : Option Refusal) (flow : Flow) → GoodFlow flow → GoodFlow (unless found flow)
  unless-good None flow a = a
  unless-good (Some why) flow a = tt

  pub put-good : (table : Table) (name : List ℕ) (entry : Option Meaning) → GoodTable Q table → GoodFound Q entry → GoodTable Q (put table name entry)
  put-good table name entry t a other = by-choice (GoodFound Q) (bytes_eq other name) entry (table other) a (t other)

  pub meaning-good : (m : PlainMacro) (params : Option (List (List ℕ))) → Tokens Q m.body → GoodMeaning Q (meaning m params)
  meaning-good m None a = a
  meaning-good m (Some params) a = a

  pub redefined-good : (r : Reading) (hash : PlainToken) (found : Option Refusal) (name : List ℕ) (old : Option Meaning) (new : Meaning) → GoodReading r → GoodMeaning Q new → GoodFlow (redefined r hash found name old new)
  redefined-good r hash found name None new g a =
      unless-good found _ (record { table = put-good r.table name (Some new) g.table a; tokens = g.tokens })
  redefined-good r hash found name (Some old) new g a =
      by-choice GoodFlow (same_meaning old new) (unless found (on r)) _ (unless-good found (on r) g) tt

  unless-refused-good : (found : Option Refusal) (reads : List Read) (flow : Flow) → (GoodReads reads → GoodFlow flow) → GoodReads (unless_refused found reads) → GoodFlow (unless found flow)
  unless-refused-good None reads flow next a = next a
  unless-refused-good (Some why) reads flow next a = tt

  -- how included files are read, and what they read
  abbrev pub GoodDeeper : Option (Source → Reading → Flow) → Option (Source → Reading → List Read) → Type 0
  GoodDeeper None reads = ⊤
  GoodDeeper (Some read) None = ⊥
  GoodDeeper (Some read) (Some reads) = (source : Source) (r : Reading) → GoodReading r → GoodReads (reads source r) → GoodFlow (read source r)

  then-good : (flow : Flow) (next : Reading → Flow) (reads : Reading → List Read) → GoodFlow flow → ((r : Reading) → GoodReading r → GoodReads (reads r) → GoodFlow (next r)) → GoodReads (reads_behind flow reads) → GoodFlow (then_read flow next)
  then-good (on r) next reads g keeps a = keeps r g a
  then-good (refused why) next reads g keeps a = tt

  pub end-good : (flow : Flow) (why : Refusal) → GoodFlow (then_read flow (λ after. refused why))
  end-good (on r) why = tt
  end-good (refused other) why = tt

  module _ (s : Setting) (f : Following) (deeper : GoodDeeper s.deeper f.deeper) where
    included-good : (r : Reading) (hash : PlainToken) (names : List PlainToken) (read : Option (Source → Reading → Flow)) (reads : Option (Source → Reading → List Read)) (source : Option Source) → GoodDeeper read reads → GoodReading r → GoodReads (included_reads s f r names reads source) → GoodFlow (included s r hash names read source)
    included-good r hash names read reads None d g a = tt
    included-good r hash names None reads (Some source) d g a = tt
    included-good r hash names (Some read) None (Some source) d g a = absurd d
    included-good r hash names (Some read) (Some reads) (Some source) d g a =
        unless-refused-good (refused_token names) (reads source r) (read source r) (d source r g) a

    directed-good : (r : Reading) (hash : PlainToken) (tokens : List PlainToken) (what : PlainDirective) → GoodReading r → GoodDirective what → GoodReads (reads_of_inclusion s f r what) → GoodFlow (directed s r hash tokens what)
    directed-good r hash tokens (define_line m) g b a =
        by-choice GoodFlow (s.is_feature m.name) _ _ tt
        (redefined-good r hash (refused_token (drop 2 tokens)) m.name (r.table m.name) (meaning m m.params) g (meaning-good m m.params b))
    directed-good r hash tokens (undef_line name) g b a =
        by-choice GoodFlow (s.is_feature name.text) _ _ tt
        (unless-good (refused_ignored (drop 3 tokens)) _ (record { table = put-good r.table name.text None g.table tt; tokens = g.tokens }))
    directed-good r hash tokens (include_line names) g b a =
        included-good r hash names s.deeper f.deeper (source_of s.headers s.name names) deeper g a
    directed-good r hash tokens bad_define g b a = tt
    directed-good r hash tokens error_line g b a = tt
    directed-good r hash tokens null_line g b a = g
    directed-good r hash tokens (if_line names) g b a = tt
    directed-good r hash tokens (ifdef_line name) g b a = tt
    directed-good r hash tokens (ifndef_line name) g b a = tt
    directed-good r hash tokens (elif_line names) g b a = tt
    directed-good r hash tokens else_line g b a = tt
    directed-good r hash tokens endif_line g b a = tt
    directed-good r hash tokens malformed g b a = tt

    read-directive-good : (r : Reading) (tokens : List PlainToken) → GoodReading r → Tokens Q tokens → GoodReads (reads_of_inclusion s f r (directive_of tokens)) → GoodFlow (read_directive s r tokens)
    read-directive-good r [] g b a = g
    read-directive-good r (hash ∷ rest) g b a = directed-good r hash (hash ∷ rest) (directive_of (hash ∷ rest)) g (directive-good (hash ∷ rest) b) a

    skip-good : (r : Reading) (others : Branches) → GoodReading r → GoodFlow (skip s r others)
    skip-good r no_branch g = g
    skip-good r (branch line body others) g = unless-good (refused_ignored (drop 2 line.tokens)) (skip s r others) (skip-good r others g)

    then-skip-good : (flow : Flow) (others : Branches) → GoodFlow flow → GoodFlow (then_read flow (λ after. skip s after others))
    then-skip-good (on r) others g = skip-good r others g
    then-skip-good (refused why) others g = tt

    -- a branch by its line: both what its body comes to and what the other branches come to are good
    condition-good : (truth : Condition) (taken passed : List Read) (more : List Read) (body others : Flow) → (GoodReads taken → GoodFlow body) → (GoodReads passed → GoodFlow others) → GoodReads (by_truth s f truth (taken ++ more) passed) → GoodFlow (by_condition s truth body others)
    condition-good (holds true) taken passed more body others b o a = b (each-left (λ read. Tokens Q read.tokens) taken more a)
    condition-good (holds false) taken passed more body others b o a = o a
    condition-good (fails why) taken passed more body others b o a = tt

    branched-good : (r : Reading) (line : PlainLine) (body : Part) (others : Branches) (taken passed : List Read) → (GoodReads taken → GoodFlow (read_part s r body)) → (GoodReads passed → GoodFlow (read_branches s r others)) → GoodReads (reads_of_branch s f r line body others taken passed) → GoodFlow (branched s r line (read_part s r body) others (read_branches s r others))
    branched-good r line body others taken passed b o a =
        condition-good (condition_at s.value_of r.table line.tokens) taken passed (reads_behind (read_part s r body) (λ after. reads_of_passed s f after others))
        (then_read (read_part s r body) (λ after. skip s after others)) (read_branches s r others)
        (λ x. then-skip-good (read_part s r body) others (b x)) o a.1

    mutual
      pub part-good : (part : Part) (r : Reading) → GoodReading r → GoodReads (reads_of_part s f r part) → GoodFlow (read_part s r part)
      part-good finish r g a = g
      part-good breaks r g a = tt
      part-good (text_lines lines rest) r g a =
          then-good (read_run r (tokens_of_lines lines)) (λ after. read_part s after rest) (λ after. reads_of_part s f after rest)
          (run-good r (tokens_of_lines lines) g a.0) (part-good rest) a.1
      part-good (directive_line line rest) r g a =
          then-good (read_directive s r line.tokens) (λ after. read_part s after rest) (λ after. reads_of_part s f after rest)
          (read-directive-good r line.tokens g a.0 (each-left (λ read. Tokens Q read.tokens) (reads_of_inclusion s f r (directive_of line.tokens)) _ a.1))
          (part-good rest) (each-right (λ read. Tokens Q read.tokens) (reads_of_inclusion s f r (directive_of line.tokens)) _ a.1)
      part-good (group first body others last rest) r g a =
          then-good (branched s r first (read_part s r body) others (read_branches s r others)) _ _
          (branched-good r first body others (reads_of_part s f r body) (reads_of_branches s f r others) (part-good body r g) (branches-good others r g)
          (each-left (λ read. Tokens Q read.tokens) (reads_of_branch s f r first body others (reads_of_part s f r body) (reads_of_branches s f r others)) _ a))
          (λ after h b. unless-refused-good (refused_ignored (drop 2 last.tokens)) (reads_of_part s f after rest) (read_part s after rest) (part-good rest after h) b.1)
          (each-right (λ read. Tokens Q read.tokens) (reads_of_branch s f r first body others (reads_of_part s f r body) (reads_of_branches s f r others)) _ a)
      part-good (broken_group first body others) r g a =
          end-good (branched s r first (read_part s r body) others (read_branches s r others)) s.broken

      pub branches-good : (others : Branches) (r : Reading) → GoodReading r → GoodReads (reads_of_branches s f r others) → GoodFlow (read_branches s r others)
      branches-good no_branch r g a = g
      branches-good (branch line body others) r g a =
          branched-good r line body others (reads_of_part s f r body) (reads_of_branches s f r others) (part-good body r g) (branches-good others r g) a
