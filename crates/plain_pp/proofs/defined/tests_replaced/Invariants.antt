use Rattle.std.proofs.Common.{◌≡◌, map, drop}
use Rattle.c_text.specs.Token.{plain_token}
use Rattle.c_text.specs.Preprocessing as spec
use Rattle.plain_macros.specs.PlainTables.{table_of}
use Rattle.plain_pp.specs.Tests.{tested_with}
use Rattle.plain_pp.proofs.defined.tests_replaced.Given as goal

abbrev pub invariant-loop-i : goal.invariant-loop-i
invariant-loop-i l =
    tested_with (table_of l.table) l.tested (map plain_token (drop l.i l.tokens))
    ≡ spec.tests_replaced (table_of l.table) 0 (map plain_token l.tokens)
