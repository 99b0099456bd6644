use Rattle.std.proofs.Common.{◌≡◌, List, Bool, map, drop}
use Rattle.cond_formula.specs.Features.{has}
use Rattle.c_text.specs.Token.{plain_token}
use Rattle.c_text.specs.Preprocessing as spec
use Rattle.macro_table.specs.Features.{macros_at}
use Rattle.cond_readings.specs.Tests.{tested_with}
use Rattle.cond_readings.proofs.tests.tests_replaced.Given as goal

abbrev pub invariant-loop-i : goal.invariant-loop-i
invariant-loop-i l = (c : List Bool) →
    tested_with (has c) (macros_at (has c) l.macros) l.tested (map plain_token (drop l.i l.tokens))
    ≡ spec.tests_replaced (macros_at (has c) l.macros) 0 (map plain_token l.tokens)
