use Rattle.std.proofs.Common.{◌≡◌, map, take, Some}
use Rattle.c_text.specs.Token.{plain_token}
use Rattle.c_tree.specs.Machine.{start, read_on}
use Rattle.plain_parse.specs.Kept.{of_kept}
use Rattle.plain_parse.specs.Frames.{plain_frames}
use Rattle.plain_parse.proofs.readings.read.Given as goal

abbrev pub invariant-loop-place : goal.invariant-loop-place
invariant-loop-place l = read_on of_kept (Some start) (take l.place (map plain_token l.tokens)) ≡ Some (plain_frames l.frames.items)
