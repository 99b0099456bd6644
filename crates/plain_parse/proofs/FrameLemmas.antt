-- The frames, innermost first, with one more.
use Rattle.std.proofs.Common.{◌≡◌, List, [], ◌∷◌, ◌++◌, map, ap}
use Rattle.std.proofs.lemmas.List.{reverse-append}
use Rattle.plain_parse.specs.declared.frames.Frame.{Frame}
use Rattle.plain_parse.specs.Frames.{plain_frame, plain_frames}

pub plain_frames-push : (frames : List Frame) (inner : Frame) → plain_frames (frames ++ inner ∷ []) ≡ plain_frame inner ∷ plain_frames frames
plain_frames-push frames inner = ap (map plain_frame) (reverse-append frames (inner ∷ []))
