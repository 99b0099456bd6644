use Rattle.std.proofs.Common.{◌≡◌, ◌++◌, map, drop}
use Rattle.c_text.specs.Preprocessing as spec
use Rattle.unit_files.proofs.inclusions.joined_from.Given as goal

abbrev pub invariant-loop-part : goal.invariant-loop-part
invariant-loop-part l =
    l.name.items ++ spec.further (map (λ p. p.now) (drop l.part-index l.others)) ≡ l.first ++ spec.further (map (λ p. p.now) l.others)
