-- The reading of a file, by its directive lines and conditional groups (ISO/IEC 9899:2011, 6.10).
use Rattle.std.specs.Prelude.{if◌then◌else◌, ℕ, Bool, true, false, ℤ, List, [], ◌∷◌, drop, Option, Some, None}
use Rattle.c_text.specs.Token.{PlainToken}
use Rattle.c_text.specs.Lines.{PlainLine}
use Rattle.c_text.specs.Directives.{PlainDirective, define_line, bad_define, undef_line, include_line, error_line, null_line, directive_of}
use Rattle.c_text.specs.Trees.{Part, finish, breaks, text_lines, directive_line, group, broken_group, Branches, no_branch, branch}
use Rattle.c_text.specs.Preprocessing.Refusals.{Refusal, bad_directive, bad_macro, error_directive, include_depth, no_file, refusal_at, refused_ignored, refused_token}
use Rattle.c_text.specs.Preprocessing.Flows.{Flow, Reading, on, read_run, refused, then_read, tokens_of_lines, unless}
use Rattle.c_text.specs.Preprocessing.Conditions.{Condition, condition_at, fails, holds}
use Rattle.c_text.specs.Preprocessing.Definitions.{meaning, put, redefined}
use Rattle.c_text.specs.Preprocessing.Inclusions.{Source, source_of}

-- what the reading of a file stands on
pub record Setting : Type 0 where
  -- the values of expressions
  pub value_of : List PlainToken → Option ℤ
  pub is_feature : List ℕ → Bool
  pub headers : List (List ℕ)
  -- the name of the file that is read, and the refusal where it breaks
  pub name : List ℕ
  pub broken : Refusal
  -- how an included file is read, if one may still be included
  pub deeper : Option (Source → Reading → Flow)

module _ (s : Setting) where
  abbrev pub included : Reading → PlainToken → List PlainToken → Option (Source → Reading → Flow) → Option Source → Flow
  included r hash tokens deeper None = refused (refusal_at no_file hash)
  included r hash tokens None (Some source) = refused (refusal_at include_depth hash)
  included r hash tokens (Some read) (Some source) = unless (refused_token tokens) (read source r)

  -- a directive line that belongs to no group, by its `#`, its tokens and what it says
  abbrev pub directed : Reading → PlainToken → List PlainToken → PlainDirective → Flow
  directed r hash tokens (define_line m) =
      if s.is_feature m.name then refused (refusal_at bad_macro hash)
      else redefined r hash (refused_token (drop 2 tokens)) m.name (r.table m.name) (meaning m m.params)
  directed r hash tokens (undef_line name) =
      if s.is_feature name.text then refused (refusal_at bad_macro hash)
      else unless (refused_ignored (drop 3 tokens)) (on (record r { table = put r.table name.text None }))
  directed r hash tokens (include_line names) =
      included r hash names s.deeper (source_of s.headers s.name names)
  directed r hash tokens bad_define = refused (refusal_at bad_macro hash)
  directed r hash tokens error_line = refused (refusal_at error_directive hash)
  directed r hash tokens null_line = on r
  directed r hash tokens other = refused (refusal_at bad_directive hash)

  abbrev pub read_directive : Reading → List PlainToken → Flow
  -- (a directive line has its `#`)
  read_directive r [] = on r
  read_directive r (hash ∷ rest) = directed r hash (hash ∷ rest) (directive_of (hash ∷ rest))

  -- the first branch whose condition holds, and what is done with those after it
  abbrev pub by_condition : Condition → Flow → Flow → Flow
  by_condition (holds true) taken passed = taken
  by_condition (holds false) taken passed = passed
  by_condition (fails why) taken passed = refused why

  -- branches after the one that was taken: of their lines only a comment that isn't closed counts
  abbrev pub skip : Reading → Branches → Flow
  skip r no_branch = on r
  skip r (branch line body others) = unless (refused_ignored (drop 2 line.tokens)) (skip r others)

  -- a branch by its line: what its body comes to and behind it the lines of the branches that are passed over, or what these come to
  abbrev pub branched : Reading → PlainLine → Flow → Branches → Flow → Flow
  branched r line body others passed =
      by_condition (condition_at s.value_of r.table line.tokens) (then_read body (λ after. skip after others)) passed

  abbrev mutual
    pub read_part : Reading → Part → Flow
    read_part r finish = on r
    read_part r breaks = refused s.broken
    read_part r (text_lines lines rest) = then_read (read_run r (tokens_of_lines lines)) (λ after. read_part after rest)
    read_part r (directive_line line rest) = then_read (read_directive r line.tokens) (λ after. read_part after rest)
    read_part r (group first body others last rest) =
        then_read
        (branched r first (read_part r body) others (read_branches r others))
        (λ after. unless (refused_ignored (drop 2 last.tokens)) (read_part after rest))
    read_part r (broken_group first body others) =
        then_read
        (branched r first (read_part r body) others (read_branches r others))
        (λ after. refused s.broken)

    pub read_branches : Reading → Branches → Flow
    read_branches r no_branch = on r
    read_branches r (branch line body others) =
        branched r line (read_part r body) others (read_branches r others)
