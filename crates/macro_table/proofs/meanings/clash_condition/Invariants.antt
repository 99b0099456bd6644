use Rattle.std.proofs.Common.{◌≡◌, ℕ, Bool, not, ◌&&◌, ◌||◌, drop}
use Rattle.c_text.specs.PlainMacros.{plain_macro}
use Rattle.cond_formula.specs.Conditions.{condition_of, value}
use Rattle.conditional.specs.Entries.{entries_of}
use Rattle.macro_table.specs.PlainDefinitions.{plain_definition}
use Rattle.macro_table.specs.MacroTables.{macro_meaning, clashes, meaning_among}
use Rattle.macro_table.proofs.meanings.clash_condition.Given as goal

abbrev pub invariant-loop-definition : goal.invariant-loop-definition
invariant-loop-definition l = (on : ℕ → Bool) →
    (value on (condition_of l.clash) || (not (value on (condition_of l.same)) && clashes (meaning_among on (entries_of plain_definition (drop l.definition-index l.definitions))) (macro_meaning (plain_macro l.m))))
    ≡ clashes (meaning_among on (entries_of plain_definition l.definitions)) (macro_meaning (plain_macro l.m))
