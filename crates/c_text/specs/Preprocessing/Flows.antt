-- How far the reading of a unit has come, and what a run of tokens between two directive lines does to it.
use Rattle.std.specs.Prelude.{List, [], ◌∷◌, ◌++◌, map, Option, Some, None}
use Rattle.c_text.specs.Token.{PlainToken}
use Rattle.c_text.specs.Lines.{PlainLine}
use Rattle.c_text.specs.Macros.{Table, Replaced, fine, bad_call, replaced}
use Rattle.c_text.specs.Preprocessing.Refusals.{Refusal, bad_call_kind, earlier, refusal_at, refused_token}

-- where a reading stands: the macros that are defined, and the tokens so far
pub record Reading : Type 0 where
  pub table : Table
  pub tokens : List PlainToken

pub data Flow : Type 0 where
  on : Reading → Flow
  refused : Refusal → Flow

abbrev pub then_read : Flow → (Reading → Flow) → Flow
then_read (on r) next = next r
then_read (refused why) next = refused why

-- on, unless there is a refusal
abbrev pub unless : Option Refusal → Flow → Flow
unless None flow = flow
unless (Some why) flow = refused why

abbrev pub emitted : Reading → List PlainToken → Option Refusal → Replaced → Flow
emitted r tokens (Some why) (fine items) = refused why
emitted r tokens None (fine items) = on (record r { tokens = r.tokens ++ map (λ item. item.token) items })
emitted r tokens found (bad_call name) = refused (earlier found (refusal_at bad_call_kind name))

-- an outermost list
abbrev pub read_run : Reading → List PlainToken → Flow
read_run r tokens = emitted r tokens (refused_token tokens) (replaced r.table tokens)

abbrev pub tokens_of_lines : List PlainLine → List PlainToken
tokens_of_lines [] = []
tokens_of_lines (line ∷ lines) = line.tokens ++ tokens_of_lines lines
