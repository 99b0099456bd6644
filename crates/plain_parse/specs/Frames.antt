-- The values and frames of the code as those of the reader.
use Rattle.std.specs.Prelude.{List, map, reverse, Option, option_map}
use Rattle.c_tree.specs.Trees.{PlainTree, plain_tree}
use Rattle.c_tree.specs.Machine as machine
use Rattle.plain_parse.specs.declared.values.LowTree.{LowTree}
use Rattle.plain_parse.specs.declared.values.Parts.{Parts}
use Rattle.plain_parse.specs.declared.frames.Frame.{Frame}
use Rattle.grammar_moves.specs.PlainPlaces.{plain_place}

abbrev pub plain_built : Option LowTree → Option PlainTree
plain_built value = option_map (λ low. plain_tree low.tree) value

abbrev pub plain_parts : Option Parts → Option (List PlainTree)
plain_parts parts = option_map (λ p. map plain_tree p.trees.items) parts

abbrev pub plain_frame : Frame → machine.Frame (Option PlainTree)
plain_frame f = machine.frame (plain_place f.place) (map plain_built f.parts.items)

-- the frames, the innermost first
abbrev pub plain_frames : List Frame → List (machine.Frame (Option PlainTree))
plain_frames frames = map plain_frame (reverse frames)
