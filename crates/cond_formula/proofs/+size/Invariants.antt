use Rattle.std.proofs.Common.{◌≡◌, ◌+◌, ◌≤◌, min, drop}
use Rattle.cond_formula.specs.Conditions.{conditions_of}
use Rattle.cond_formula.specs.Sizes.{size_of_all}
use Rattle.cond_formula.proofs.+size.Given as goal

abbrev pub invariant-sizes::size_of_node-loop-part : goal.invariant-sizes::size_of_node-loop-part
invariant-sizes::size_of_node-loop-part l =
    (l.all ≤ 18446744073709551615)
    × (min (l.all + size_of_all (conditions_of (drop l.part-index l.parts))) 18446744073709551615
    ≡ min (size_of_all (conditions_of l.parts) + 1) 18446744073709551615)
