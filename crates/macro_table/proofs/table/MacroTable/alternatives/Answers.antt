use Rattle.std.proofs.Common.{List, map, sym, subst}
use Rattle.c_text.specs.Directives.{PlainMacro}
use Rattle.c_text.specs.PlainMacros.{plain_macro}
use Rattle.cond_formula.specs.Conditions.{condition_of}
use Rattle.conditional.specs.Entries.{Entry, listed, first, seen, Sees}
use Rattle.macro_table.specs.PlainDefinitions.{plain_definition}
use Rattle.macro_table.specs.MacroTables.{macro_meaning, meaning_among}
use Rattle.macro_table.proofs.ClashLemmas.{sees_image}
use Rattle.macro_table.proofs.table.MacroTable.alternatives.Goals as goal

pub returns-in_ok-all-in-Some : goal.returns-in_ok-all-in-Some
returns-in_ok-all-in-Some c = λ on.
    let o = first (seen on (listed plain_definition c.in-Some.list.now)) in
    let pairs = c.in_ok-all-in-Some.all.items in
    subst (λ (l : List (Entry PlainMacro)). Sees on (meaning_among on l) (map (λ p. record { when = condition_of p.0; what = macro_meaning (plain_macro p.1) }) pairs)) c.in-Some.ensures
    (sees_image macro_meaning (λ p. condition_of p.0) (λ p. plain_macro p.1) on o pairs
    (subst (λ (l : List (Entry PlainMacro)). Sees on o l) (sym c.in_ok-all-in-Some.ensures) (c.in_ok-first_value-in-Some.ensures on)))
