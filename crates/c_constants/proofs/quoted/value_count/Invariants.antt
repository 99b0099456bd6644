use Rattle.std.proofs.Common.{◌≡◌, ◌≤◌, drop, length}
use Rattle.std.specs.Option.{option_map}
use Rattle.c_text.specs.Constants.{values_from}
use Rattle.c_constants.proofs.ValueLemmas.{counted}
use Rattle.c_constants.proofs.quoted.value_count.Given as goal

abbrev pub invariant-loop-i : goal.invariant-loop-i
invariant-loop-i l =
    (l.count ≤ l.i)
    × (counted l.count (values_from l.more (drop l.i l.bytes)) ≡ option_map (λ vs. length vs) (values_from 0 l.bytes))
