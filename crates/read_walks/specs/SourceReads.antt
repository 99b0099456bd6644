-- What follows in a source of a unit, as the walk over its lines takes it.
use Rattle.std.specs.Prelude.{ℕ, zero, suc, List, Option, Some, None}
use Rattle.c_text.specs.Token.{PlainToken}
use Rattle.c_text.specs.Preprocessing.{Reading, Source, Sources, Syntax, IsSyntaxOf}
use Rattle.active_tokens.specs.Reads.{Read, Following}
use Rattle.active_tokens.specs.Active.{AreMisplaced, following, reads_of_source}

-- what an included file reads, where so many more may be nested
abbrev pub deeper_reads_of : Sources → Syntax → (Source → List PlainToken) → ℕ → Option (Source → Reading → List Read)
deeper_reads_of s x misplaced zero = None
deeper_reads_of s x misplaced (suc more) = Some (reads_of_source s x misplaced more)

abbrev pub following_in : Sources → Syntax → (Source → List PlainToken) → ℕ → Source → Following
following_in s x misplaced more source = following (misplaced source) (deeper_reads_of s x misplaced more)

-- the conditional lines that fit no group have tokens, for each file
pub record HasMisplaced {s : Sources} {x : Syntax} (are : IsSyntaxOf s x) : Type 0 where
  pub misplaced : Source → List PlainToken
  pub are_misplaced : AreMisplaced are misplaced
