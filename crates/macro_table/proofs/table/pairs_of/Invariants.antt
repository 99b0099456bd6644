use Rattle.std.proofs.Common.{◌≡◌, map}
use Rattle.c_text.specs.PlainMacros.{plain_macro}
use Rattle.cond_formula.specs.Conditions.{condition_of}
use Rattle.conditional.specs.Entries.{entries_of}
use Rattle.macro_table.specs.PlainDefinitions.{plain_definition}
use Rattle.macro_table.proofs.table.pairs_of.Given as goal

abbrev pub invariant-loop-alternative : goal.invariant-loop-alternative
invariant-loop-alternative l =
    map (λ p. record { when = condition_of p.0; what = plain_macro p.1 }) l.pairs.items ≡ entries_of plain_definition l.yielded
