use Rattle.std.proofs.Common.{◌≡◌, drop}
use Rattle.c_text.specs.Constants.{values_from}
use Rattle.c_constants.proofs.ValueLemmas.{collected}
use Rattle.c_constants.proofs.quoted.values.Given as goal

abbrev pub invariant-loop-i : goal.invariant-loop-i
invariant-loop-i l = collected l.values.items (values_from l.more (drop l.i l.bytes)) ≡ values_from 0 l.bytes
