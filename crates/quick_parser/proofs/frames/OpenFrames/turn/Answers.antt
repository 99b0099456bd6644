use Rattle.std.proofs.Common.{◌≡◌, Some, ap, ◌∙◌, reverse, length}
use Rattle.quick_parser.specs.declared.spots.Frame.TheVariants.{Group}
use Rattle.quick_parser.specs.Spots.{innermost, turned_frames}
use Rattle.quick_parser.proofs.FrameLemmas.{reverse-turned, block_count-turned}
use Rattle.quick_parser.proofs.frames.OpenFrames.turn.Goals as goal

pub invariant_of-self : goal.invariant_of-self
invariant_of-self c =
    let xs = c.self.inside.frames.items in
    let top : innermost (reverse xs) ≡ Some Group = cc in
    let last : c.len-last.result ≡ length xs = cc in
    rw (reverse-turned xs c.len-last.result last top, block_count-turned (reverse xs)) c.self.invariant

pub returns-in-Some-Group : goal.returns-in-Some-Group
returns-in-Some-Group c =
    let xs = c.self.inside.frames.items in
    let top : innermost (reverse xs) ≡ Some Group = cc in
    let last : c.len-last.result ≡ length xs = cc in
    reverse-turned xs c.len-last.result last top ∙ ap (λ l. turned_frames l) c.self.view_is
