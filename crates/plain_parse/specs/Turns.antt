-- What the code's steps say, as outcomes of the reader.
use Rattle.std.specs.Prelude.{◌≡◌, ℕ, List, length, Option, Some, None}
use Rattle.c_text.specs.declared.token.Token.{Token}
use Rattle.c_text.specs.Token.{plain_token}
use Rattle.c_tree.specs.declared.terminals.Terminal.{Terminal}
use Rattle.c_tree.specs.Trees.{PlainTree}
use Rattle.c_tree.specs.Machine as machine
use Rattle.plain_parse.specs.declared.frames.Frame.{Frame}
use Rattle.plain_parse.specs.declared.turns.Step.{Step}
use Rattle.plain_parse.specs.declared.turns.Step.TheVariants.{GoesOn, Whole, Wrong}
use Rattle.plain_parse.specs.declared.turns.Turn.{Turn}
use Rattle.plain_parse.specs.declared.turns.Turn.TheVariants.{Again, Done}
use Rattle.plain_parse.specs.Kept.{of_kept}
use Rattle.plain_parse.specs.Frames.{plain_built, plain_frames}

-- what stands for a token, or for the end of the text
abbrev pub read_as : Option Token → Option PlainTree
read_as None = of_kept.of_nothing
read_as (Some token) = of_kept.of_token (plain_token token)

abbrev pub stepped : Step → List Frame → machine.Outcome (Option PlainTree)
stepped GoesOn frames = machine.goes_on (plain_frames frames)
stepped (Whole value) frames = machine.is_whole (plain_built value)
stepped Wrong frames = machine.is_wrong

-- the token is still to be read
abbrev pub turned : Terminal → Option PlainTree → Turn → List Frame → machine.Outcome (Option PlainTree)
turned kind token Again frames = machine.outcome of_kept kind token (plain_frames frames)
turned kind token (Done step) frames = stepped step frames

-- there are so many frames if the token is still to be read
abbrev pub LeftIfAgain : ℕ → Turn → List Frame → Type 0
LeftIfAgain count Again frames = length frames ≡ count
LeftIfAgain count (Done step) frames = Unit {0}
