-- What a file gives has each property that the tokens of its text lines have where none of them is refused, and those of the bodies of macros.
use Rattle.std.proofs.Common.{◌≡◌, ℕ, Bool, true, false, ◌||◌, ◌&&◌, List, [], ◌∷◌, map, drop, Option, Some, None, codes, refl, subst}
use Rattle.std.specs.Prelude.{⊤}
use Rattle.std.specs.List.{list_any}
use Rattle.std.specs.Str.{bytes_eq}
use Rattle.c_text.specs.Token.{PlainToken}
use Rattle.c_text.specs.Lines.{PlainLine}
use Rattle.c_text.specs.Directives.{PlainMacro, PlainDirective, if_line, ifdef_line, ifndef_line, elif_line, else_line, endif_line, define_line, bad_define, undef_line, include_line, error_line, null_line, malformed, is_spelled, is_word, is_fixed_name, is_barred, has_repetition, Parameters, parameters_of, in_body, macro_line, function_like, definition, by_word, removal, inclusion, ends_with_angle, is_text_kind, directive_of}
use Rattle.c_text.specs.Macros.{Meaning, Table, Item, Replaced, fine, bad_call, brought, replaced}
use Rattle.c_text.specs.Trees.{Part, finish, breaks, text_lines, directive_line, group, broken_group, Branches, no_branch, branch}
use Rattle.c_text.specs.Preprocessing.{Refusal, refused_token, refused_ignored, Reading, Flow, on, refused, then_read, unless, emitted, read_run, tokens_of_lines, Condition, holds, fails, condition_at, meaning, put, same_meaning, redefined, Source, source_of, Setting, included, directed, read_directive, by_condition, skip, branched, read_part, read_branches, gives, is_refused, outcome_of}
use Rattle.active_tokens.proofs.Everywhere.{each-append, each-map, by-choice}
use Rattle.copied_tokens.proofs.Replacing.{Comes, ComesItem, Tokens, Items, GoodMeaning, GoodFound, GoodTable, GoodReplaced, replaced-good}

module _ (P : PlainToken → Type 0) (brings : (first last : PlainToken) (item : Item) → P item.token → P (brought first last item).token) (bodies : (token : PlainToken) → P (in_body token)) where
  pub record GoodReading (r : Reading) : Type 0 where
    pub table : GoodTable P brings r.table
    pub tokens : Tokens P brings r.tokens

  abbrev pub GoodFlow : Flow → Type 0
  GoodFlow (on r) = GoodReading r
  GoodFlow (refused why) = ⊤

  -- where a unit gives tokens, these have it
  pub flow-gives : (flow : Flow) (tokens : List PlainToken) → GoodFlow flow → outcome_of flow ≡ gives tokens → Tokens P brings tokens
  flow-gives (on r) tokens g e = subst (Tokens P brings) (gives-same r.tokens tokens e) g.tokens
    where
      gives-same : (a b : List PlainToken) → gives a ≡ gives b → a ≡ b
      gives-same a b e = cc
  flow-gives (refused why) tokens g e = absurd (refused-gives why tokens e)
    where
      refused-gives : (why : Refusal) (b : List PlainToken) → is_refused why ≡ gives b → ⊥
      refused-gives why b e = cc

  -- ---- runs

  given : (items : List Item) → Items P brings items → Tokens P brings (map (λ item. item.token) items)
  given items a = each-map (Comes P brings) (ComesItem P brings) (λ item. item.token) (λ item x. x) items a

  emitted-good : (r : Reading) (tokens : List PlainToken) (what : Replaced) → GoodReading r → GoodReplaced P brings what → GoodFlow (emitted r tokens None what)
  emitted-good r tokens (fine items) g a =
      record { table = g.table; tokens = each-append (Comes P brings) r.tokens (map (λ item. item.token) items) g.tokens (given items a) }
  emitted-good r tokens (bad_call name) g a = tt

  refused-good : (r : Reading) (tokens : List PlainToken) (why : Refusal) (what : Replaced) → GoodFlow (emitted r tokens (Some why) what)
  refused-good r tokens why (fine items) = tt
  refused-good r tokens why (bad_call name) = tt

  -- the tokens of a run have it, unless one of them is refused
  abbrev pub GoodRun : List PlainToken → Type 0
  GoodRun tokens = refused_token tokens ≡ None → Tokens P brings tokens

  run-good : (r : Reading) (tokens : List PlainToken) → GoodReading r → GoodRun tokens → GoodFlow (read_run r tokens)
  run-good r tokens g a = by (refused_token tokens) a
    where
      by : (found : Option Refusal) → (found ≡ None → Tokens P brings tokens) → GoodFlow (emitted r tokens found (replaced r.table tokens))
      by (Some why) a = refused-good r tokens why (replaced r.table tokens)
      by None a = emitted-good r tokens (replaced r.table tokens) g (replaced-good P brings r.table tokens g.table (a refl))

  -- ---- bodies of macros

  abbrev GoodDirective : PlainDirective → Type 0
  GoodDirective (define_line m) = Tokens P brings m.body
  GoodDirective other = ⊤

  body-good : (body : List PlainToken) → Tokens P brings (map in_body body)
  body-good [] = tt
  body-good (token ∷ body) = (bodies token, body-good body)

  macro-line-good : (bad : Bool) (name : PlainToken) (params : Option (List (List ℕ))) (body : List PlainToken) → GoodDirective (macro_line bad name params body)
  macro-line-good bad name params body = by-choice GoodDirective (bad || is_fixed_name name || list_any is_barred body) bad_define _ tt (body-good body)

  function-like-good : (name : PlainToken) (p : Option Parameters) → GoodDirective (function_like name p)
  function-like-good name None = tt
  function-like-good name (Some p) = macro-line-good (p.variadic || has_repetition p.names) name (Some p.names) p.body

  definition-good : (name : PlainToken) (rest : List PlainToken) → GoodDirective (definition name rest)
  definition-good name [] = macro-line-good false name None []
  definition-good name (token ∷ rest) =
      by-choice GoodDirective (is_spelled (codes "(") token && token.joined) (function_like name (parameters_of rest)) (macro_line false name None (token ∷ rest))
      (function-like-good name (parameters_of rest)) (macro-line-good false name None (token ∷ rest))

  by-word-good : (make : PlainToken → List PlainToken → PlainDirective) → ((token : PlainToken) (rest : List PlainToken) → GoodDirective (make token rest)) → (rest : List PlainToken) → GoodDirective (by_word make rest)
  by-word-good make keeps [] = tt
  by-word-good make keeps (token ∷ rest) = by-choice GoodDirective (is_word token) (make token rest) malformed (keeps token rest) tt

  inclusion-good : (rest : List PlainToken) → GoodDirective (inclusion rest)
  inclusion-good [] = tt
  inclusion-good (only ∷ []) = by-choice GoodDirective (is_text_kind only.kind) (include_line (only ∷ [])) malformed tt tt
  inclusion-good (first ∷ second ∷ rest) =
      by-choice GoodDirective (is_spelled (codes "<") first && ends_with_angle (second ∷ rest)) (include_line (first ∷ second ∷ rest)) malformed tt tt

  directive-good : (tokens : List PlainToken) → GoodDirective (directive_of tokens)
  directive-good [] = tt
  directive-good (hash ∷ []) = tt
  directive-good (hash ∷ name ∷ rest) =
      by-choice GoodDirective (is_spelled (codes "if") name) (if_line rest) _ tt
      (by-choice GoodDirective (is_spelled (codes "ifdef") name) (by_word (λ token more. ifdef_line token) rest) _
      (by-word-good (λ token more. ifdef_line token) (λ token more. tt) rest)
      (by-choice GoodDirective (is_spelled (codes "ifndef") name) (by_word (λ token more. ifndef_line token) rest) _
      (by-word-good (λ token more. ifndef_line token) (λ token more. tt) rest)
      (by-choice GoodDirective (is_spelled (codes "elif") name) (elif_line rest) _ tt
      (by-choice GoodDirective (is_spelled (codes "else") name) else_line _ tt
      (by-choice GoodDirective (is_spelled (codes "endif") name) endif_line _ tt
      (by-choice GoodDirective (is_spelled (codes "define") name) (by_word definition rest) _
      (by-word-good definition definition-good rest)
      (by-choice GoodDirective (is_spelled (codes "undef") name) (by_word removal rest) _
      (by-word-good removal (λ token more. by-choice GoodDirective (is_fixed_name token) bad_define (undef_line token) tt tt) rest)
      (by-choice GoodDirective (is_spelled (codes "include") name) (inclusion rest) _ (inclusion-good rest)
      (by-choice GoodDirective (is_spelled (codes "error") name) error_line malformed tt tt)))))))))

  -- ---- directive lines

  unless-good : (found : Option Refusal) (flow : Flow) → GoodFlow flow → GoodFlow (unless found flow)
  unless-good None flow a = a
  unless-good (Some why) flow a = tt

  put-good : (table : Table) (name : List ℕ) (entry : Option Meaning) → GoodTable P brings table → GoodFound P brings entry → GoodTable P brings (put table name entry)
  put-good table name entry t a other = by-choice (GoodFound P brings) (bytes_eq other name) entry (table other) a (t other)

  meaning-good : (m : PlainMacro) (params : Option (List (List ℕ))) → Tokens P brings m.body → GoodMeaning P brings (meaning m params)
  meaning-good m None a = a
  meaning-good m (Some params) a = a

  redefined-good : (r : Reading) (hash : PlainToken) (found : Option Refusal) (name : List ℕ) (old : Option Meaning) (new : Meaning) → GoodReading r → GoodMeaning P brings new → GoodFlow (redefined r hash found name old new)
  redefined-good r hash found name None new g a =
      unless-good found _ (record { table = put-good r.table name (Some new) g.table a; tokens = g.tokens })
  redefined-good r hash found name (Some old) new g a =
      by-choice GoodFlow (same_meaning old new) (unless found (on r)) _ (unless-good found (on r) g) tt

  then-good : (flow : Flow) (next : Reading → Flow) → GoodFlow flow → ((r : Reading) → GoodReading r → GoodFlow (next r)) → GoodFlow (then_read flow next)
  then-good (on r) next g keeps = keeps r g
  then-good (refused why) next g keeps = tt

  -- how included files are read
  abbrev pub GoodDeeper : (Source → Type 0) → Option (Source → Reading → Flow) → Type 0
  GoodDeeper There None = ⊤
  GoodDeeper There (Some read) = (source : Source) → There source → (r : Reading) → GoodReading r → GoodFlow (read source r)

  -- so for the text lines of a part
  abbrev mutual
    pub GoodTexts : Part → Type 0
    GoodTexts finish = ⊤
    GoodTexts breaks = ⊤
    GoodTexts (text_lines lines rest) = GoodRun (tokens_of_lines lines) × GoodTexts rest
    GoodTexts (directive_line line rest) = GoodTexts rest
    GoodTexts (group first body others last rest) = GoodTexts body × GoodBranches others × GoodTexts rest
    GoodTexts (broken_group first body others) = GoodTexts body × GoodBranches others

    pub GoodBranches : Branches → Type 0
    GoodBranches no_branch = ⊤
    GoodBranches (branch line body others) = GoodTexts body × GoodBranches others

  module _ (There : Source → Type 0) (s : Setting) (deeper : GoodDeeper There s.deeper) (found : (names : List PlainToken) (source : Source) → source_of s.headers s.name names ≡ Some source → There source) where
    included-good : (r : Reading) (hash : PlainToken) (names : List PlainToken) (read : Option (Source → Reading → Flow)) (source : Option Source) → GoodDeeper There read → GoodReading r → ((x : Source) → source ≡ Some x → There x) → GoodFlow (included s r hash names read source)
    included-good r hash names read None d g there = tt
    included-good r hash names None (Some source) d g there = tt
    included-good r hash names (Some read) (Some source) d g there = unless-good (refused_token names) (read source r) (d source (there source refl) r g)

    directed-good : (r : Reading) (hash : PlainToken) (tokens : List PlainToken) (what : PlainDirective) → GoodReading r → GoodDirective what → GoodFlow (directed s r hash tokens what)
    directed-good r hash tokens (define_line m) g b =
        by-choice GoodFlow (s.is_feature m.name) _ _ tt
        (redefined-good r hash (refused_token (drop 2 tokens)) m.name (r.table m.name) (meaning m m.params) g (meaning-good m m.params b))
    directed-good r hash tokens (undef_line name) g b =
        by-choice GoodFlow (s.is_feature name.text) _ _ tt
        (unless-good (refused_ignored (drop 3 tokens)) _ (record { table = put-good r.table name.text None g.table tt; tokens = g.tokens }))
    directed-good r hash tokens (include_line names) g b =
        included-good r hash names s.deeper (source_of s.headers s.name names) deeper g (found names)
    directed-good r hash tokens bad_define g b = tt
    directed-good r hash tokens error_line g b = tt
    directed-good r hash tokens null_line g b = g
    directed-good r hash tokens (if_line names) g b = tt
    directed-good r hash tokens (ifdef_line name) g b = tt
    directed-good r hash tokens (ifndef_line name) g b = tt
    directed-good r hash tokens (elif_line names) g b = tt
    directed-good r hash tokens else_line g b = tt
    directed-good r hash tokens endif_line g b = tt
    directed-good r hash tokens malformed g b = tt

    read-directive-good : (r : Reading) (tokens : List PlainToken) → GoodReading r → GoodFlow (read_directive s r tokens)
    read-directive-good r [] g = g
    read-directive-good r (hash ∷ rest) g = directed-good r hash (hash ∷ rest) (directive_of (hash ∷ rest)) g (directive-good (hash ∷ rest))

    skip-good : (r : Reading) (others : Branches) → GoodReading r → GoodFlow (skip s r others)
    skip-good r no_branch g = g
    skip-good r (branch line body others) g = unless-good (refused_ignored (drop 2 line.tokens)) (skip s r others) (skip-good r others g)

    -- a branch by its line: both what its body comes to and what the other branches come to are good
    condition-good : (truth : Condition) (body others : Flow) → GoodFlow body → GoodFlow others → GoodFlow (by_condition s truth body others)
    condition-good (holds true) body others b o = b
    condition-good (holds false) body others b o = o
    condition-good (fails why) body others b o = tt

    branched-good : (r : Reading) (line : PlainLine) (body : Part) (others : Branches) → GoodFlow (read_part s r body) → GoodFlow (read_branches s r others) → GoodFlow (branched s r line (read_part s r body) others (read_branches s r others))
    branched-good r line body others b o =
        condition-good (condition_at s.value_of r.table line.tokens) (then_read (read_part s r body) (λ after. skip s after others)) (read_branches s r others)
        (then-good (read_part s r body) (λ after. skip s after others) b (λ after g. skip-good after others g)) o

    mutual
      pub part-good : (part : Part) (r : Reading) → GoodTexts part → GoodReading r → GoodFlow (read_part s r part)
      part-good finish r a g = g
      part-good breaks r a g = tt
      part-good (text_lines lines rest) r a g =
          then-good (read_run r (tokens_of_lines lines)) (λ after. read_part s after rest) (run-good r (tokens_of_lines lines) g a.0) (λ after h. part-good rest after a.1 h)
      part-good (directive_line line rest) r a g =
          then-good (read_directive s r line.tokens) (λ after. read_part s after rest) (read-directive-good r line.tokens g) (λ after h. part-good rest after a h)
      part-good (group first body others last rest) r a g =
          then-good (branched s r first (read_part s r body) others (read_branches s r others)) (λ after. unless (refused_ignored (drop 2 last.tokens)) (read_part s after rest))
          (branched-good r first body others (part-good body r a.0 g) (branches-good others r a.1 g))
          (λ after h. unless-good (refused_ignored (drop 2 last.tokens)) (read_part s after rest) (part-good rest after a.2 h))
      part-good (broken_group first body others) r a g =
          then-good (branched s r first (read_part s r body) others (read_branches s r others)) (λ after. refused s.broken)
          (branched-good r first body others (part-good body r a.0 g) (branches-good others r a.1 g)) (λ after h. tt)

      pub branches-good : (others : Branches) (r : Reading) → GoodBranches others → GoodReading r → GoodFlow (read_branches s r others)
      branches-good no_branch r a g = g
      branches-good (branch line body others) r a g =
          branched-good r line body others (part-good body r a.0 g) (branches-good others r a.1 g)
