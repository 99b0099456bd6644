use Rattle.std.proofs.Common.{◌≡◌, map}
use Rattle.plain_parse.specs.Kept.{all_kept}
use Rattle.plain_parse.specs.Frames.{plain_built, plain_parts}
use Rattle.plain_parse.proofs.makings.low_parts.Given as goal

abbrev pub invariant-loop-value : goal.invariant-loop-value
invariant-loop-value l =
    (goal.iterator-loop-value).can_next l.value-iterator
    × (goal.iterator-loop-value).is_finite l.value-iterator
    × (plain_parts l.parts ≡ all_kept (map plain_built l.yielded))
