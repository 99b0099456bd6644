use Rattle.std.proofs.Common.{◌≡◌, map, drop}
use Rattle.c_text.specs.Token.{plain_token}
use Rattle.cond_bodies.specs.Parts.{part_from}
use Rattle.cond_bodies.proofs.slot.part_of.Given as goal

abbrev pub invariant-loop-number : goal.invariant-loop-number
invariant-loop-number l =
    part_from l.number (map (λ n. n.items) (drop l.number l.params)) (plain_token l.token)
    ≡ part_from 0 (map (λ n. n.items) l.params) (plain_token l.token)
