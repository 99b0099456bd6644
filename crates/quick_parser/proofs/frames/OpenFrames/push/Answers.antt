use Rattle.std.proofs.Common.{reverse, arith}
use Rattle.std.proofs.lemmas.List.{length-reverse}
use Rattle.quick_parser.proofs.FrameLemmas.{block_count-le}
use Rattle.quick_parser.proofs.frames.OpenFrames.push.Goals as goal

pub overflow_add-self : goal.overflow_add-self
overflow_add-self c =
    let frames = c.self.inside.frames.items in
    omega (arith, block_count-le (reverse frames), length-reverse frames, c.self.invariant, c.self.inside.frames.ok, c.self.inside.frames.small)
