-- The conditions of `#if`, `#elif`, `#ifdef` and `#ifndef` lines (ISO/IEC 9899:2011, 6.10.1).
use Rattle.std.specs.Prelude.{if◌then◌else◌, ℕ, zero, suc, Bool, true, false, not, ◌&&◌, ℤ, List, [], ◌∷◌, map, length, drop, codes, Option, Some, None, is_some}
use Rattle.c_text.specs.declared.token.TokenKind.TheVariants.{Number}
use Rattle.c_text.specs.Token.{PlainToken}
use Rattle.c_text.specs.Directives.{PlainDirective, if_line, ifdef_line, ifndef_line, elif_line, else_line, directive_of, is_spelled, is_word}
use Rattle.c_text.specs.Macros.{Table, Replaced, fine, bad_call, replaced}
use Rattle.c_text.specs.Expressions.{is_zero}
use Rattle.c_text.specs.Preprocessing.Refusals.{Refusal, bad_call_kind, bad_directive, bad_expression, earlier, or_else, refusal_at, refused_ignored, refused_token}

-- `defined X` and `defined (X)`: the name, and how many tokens they have behind `defined`
pub record Test : Type 0 where
  pub name : PlainToken
  pub length : ℕ

abbrev pub test_of : PlainToken → ℕ → Option Test
test_of name length = if is_word name then Some (record { name = name; length = length }) else None

abbrev pub test_at : List PlainToken → Option Test
test_at [] = None
test_at (name ∷ []) = test_of name 1
test_at (name ∷ second ∷ []) = test_of name 1
test_at (first ∷ name ∷ last ∷ rest) =
    if is_spelled (codes "(") first && is_spelled (codes ")") last then test_of name 3 else test_of first 1

abbrev pub digit : Bool → List ℕ
digit true = codes "1"
digit false = codes "0"

abbrev pub tested : Table → PlainToken → Test → PlainToken
tested table token test = record token { kind = Number; text = digit (is_some (table test.name.text)) }

abbrev pub with_token : PlainToken → Option (List PlainToken) → Option (List PlainToken)
with_token token None = None
with_token token (Some tokens) = Some (token ∷ tokens)

abbrev pub by_test : Table → PlainToken → Option Test → (ℕ → Option (List PlainToken)) → Option (List PlainToken)
by_test table token None others = None
by_test table token (Some test) others = with_token (tested table token test) (others test.length)

-- the tokens of an expression with its tests replaced, where so many more belong to a test
abbrev pub tests_replaced : Table → ℕ → List PlainToken → Option (List PlainToken)
tests_replaced table more [] = Some []
tests_replaced table (suc more) (token ∷ rest) = tests_replaced table more rest
tests_replaced table zero (token ∷ rest) =
    if is_spelled (codes "defined") token then by_test table token (test_at rest) (λ more. tests_replaced table more rest)
    else with_token token (tests_replaced table 0 rest)

pub data Condition : Type 0 where
  holds : Bool → Condition
  fails : Refusal → Condition

abbrev pub unless_fails : Option Refusal → Bool → Condition
unless_fails None truth = holds truth
unless_fails (Some why) truth = fails why

abbrev pub by_value : PlainToken → Option Refusal → Option ℤ → Condition
by_value hash found None = fails (refusal_at bad_expression hash)
by_value hash found (Some z) = unless_fails found (not (is_zero z))

module _ (value_of : List PlainToken → Option ℤ) where
  abbrev pub by_replaced : PlainToken → Option Refusal → Replaced → Condition
  by_replaced hash found (fine items) = by_value hash found (value_of (map (λ item. item.token) items))
  by_replaced hash found (bad_call name) = fails (earlier found (refusal_at bad_call_kind name))

  abbrev pub by_tests : Table → PlainToken → Option Refusal → Option (List PlainToken) → Condition
  by_tests table hash found None = fails (refusal_at bad_expression hash)
  by_tests table hash found (Some tokens) = by_replaced hash found (replaced table tokens)

  -- the expression of an `#if` or `#elif` whose `#` this is
  abbrev pub condition_of : Table → PlainToken → List PlainToken → Condition
  condition_of table hash tokens = by_tests table hash (refused_token tokens) (tests_replaced table 0 tokens)

  -- `#ifdef` and `#ifndef`: the tokens behind the name are ignored
  abbrev pub defined_condition : Table → Bool → PlainToken → List PlainToken → Condition
  defined_condition table wanted name ignored =
      unless_fails (or_else (refused_token (name ∷ [])) (refused_ignored ignored)) (if wanted then is_some (table name.text) else not (is_some (table name.text)))

  -- the condition of a line that begins a group or a branch, whose `#` this is
  abbrev pub line_condition : Table → PlainToken → List PlainToken → PlainDirective → Condition
  line_condition table hash tokens (if_line expression) = condition_of table hash expression
  line_condition table hash tokens (elif_line expression) = condition_of table hash expression
  line_condition table hash tokens (ifdef_line name) = defined_condition table true name (drop 3 tokens)
  line_condition table hash tokens (ifndef_line name) = defined_condition table false name (drop 3 tokens)
  line_condition table hash tokens else_line = unless_fails (refused_ignored (drop 2 tokens)) true
  -- (such a line begins no group and no branch, or is malformed)
  line_condition table hash tokens other = fails (refusal_at bad_directive hash)

  abbrev pub condition_at : Table → List PlainToken → Condition
  -- (a directive line has its `#`)
  condition_at table [] = holds false
  condition_at table (hash ∷ rest) = line_condition table hash (hash ∷ rest) (directive_of (hash ∷ rest))
