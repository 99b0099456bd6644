-- What the code's reading of tokens says, as readings of the reader.
use Rattle.std.specs.Prelude.{◌≡◌, ℕ, ◌+◌, ◌<◌, ◌≤◌, Bool, List, length, take, Option, Some, None, if◌then◌else◌}
use Rattle.c_text.specs.Token.{PlainToken}
use Rattle.c_tree.specs.Trees.{PlainTree}
use Rattle.c_tree.specs.Machine.{Frame, next, start, read_on, read}
use Rattle.plain_parse.specs.declared.readings.Reading.{Reading}
use Rattle.plain_parse.specs.declared.readings.Reading.TheVariants.{Whole, Fault}
use Rattle.plain_parse.specs.Kept.{of_kept}
use Rattle.plain_parse.specs.Frames.{plain_built}

-- whether a token goes on from some nodes, and to which
abbrev pub Continues : List (Frame (Option PlainTree)) → PlainToken → List (Frame (Option PlainTree)) → Bool → Type 0
Continues before token behind went_on = next of_kept before token ≡ (if went_on then Some behind else None)

-- so many tokens can be read, with one more they can't, and they can't all be read as a unit
pub record IsFault (tokens : List PlainToken) (place : ℕ) : Type 0 where
  pub within : place ≤ length tokens
  pub frames : List (Frame (Option PlainTree))
  pub reads : read_on of_kept (Some start) (take place tokens) ≡ Some frames
  pub ends : place < length tokens → read_on of_kept (Some start) (take (place + 1) tokens) ≡ None
  pub whole : read of_kept tokens ≡ None

abbrev pub ReadsAs : List PlainToken → Reading → Type 0
ReadsAs tokens (Whole value) = read of_kept tokens ≡ Some (plain_built value)
ReadsAs tokens (Fault place) = IsFault tokens place
