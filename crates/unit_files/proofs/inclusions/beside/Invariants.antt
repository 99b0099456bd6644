use Rattle.std.proofs.Common.{◌≡◌, ◌++◌, map, take}
use Rattle.c_text.specs.Preprocessing as spec
use Rattle.unit_files.proofs.inclusions.beside.Given as goal

abbrev pub invariant-loop-part : goal.invariant-loop-part
invariant-loop-part l =
    map (λ p. p.now) l.parts.items ≡ spec.folder (spec.components l.includer) ++ map (λ p. p.now) (take l.part-index l.part-items)
