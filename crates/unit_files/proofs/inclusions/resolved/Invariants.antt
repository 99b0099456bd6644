use Rattle.std.proofs.Common.{◌≡◌, [], map, drop, reverse}
use Rattle.c_text.specs.Preprocessing as spec
use Rattle.unit_files.proofs.inclusions.resolved.Given as goal

abbrev pub invariant-loop-part : goal.invariant-loop-part
invariant-loop-part l =
    spec.resolved (reverse (map (λ p. p.now) l.kept.items)) (map (λ p. p.now) (drop l.part-index l.parts))
    ≡ spec.resolved [] (map (λ p. p.now) l.parts)
