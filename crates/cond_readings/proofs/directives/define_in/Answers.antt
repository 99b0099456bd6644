use Rattle.std.proofs.Common.{◌≡◌, ℕ, Bool, List, ap, ◌∙◌}
use Rattle.std.specs.Prelude.{◌&&◌, is_some}
use Rattle.cond_formula.specs.Conditions.{Condition, condition_of, value}
use Rattle.c_text.specs.PlainMacros.{plain_macro}
use Rattle.macro_table.specs.MacroTables.{macro_meaning, table_at}
use Rattle.cond_readings.proofs.DirectiveLemmas.{wider-refused, wider-table}
use Rattle.cond_readings.proofs.directives.define_in.Goals as goal

pub returns-clause-refused : goal.returns-clause-refused
returns-clause-refused c =
    λ on.
    let m = plain_macro c.args.m.now in
    let old = table_at on c.args.table.now m.name in
    let h = value on (condition_of c.args.here.now) in
    let w = value on (condition_of c.in_ok-when.when) in
    let defined : value on (condition_of c.in_ok-defined.defined) ≡ is_some old =
    c.in_ok-defined.ensures on ∙ ap (λ (name : List ℕ). is_some (table_at on c.args.table.now name)) c.as_slice.ensures.value
    in
    c.in_ok-refused.ensures on
    ∙ ap (λ (a : Condition). value on a && value on (condition_of c.in_ok-clash.clash)) c.in_ok-try_clone.ensures
    ∙ ap (λ (b : Bool). h && b) (c.in_ok-clash.ensures.refused on)
    ∙ wider-refused h w old (macro_meaning m) (λ none. c.in_ok-when.ensures.same on (defined ∙ none)) (c.in_ok-when.ensures.wider on)

pub returns-clause-table : goal.returns-clause-table
returns-clause-table c =
    λ on name.
    let m = plain_macro c.args.m.now in
    let old = table_at on c.args.table.now m.name in
    let h = value on (condition_of c.args.here.now) in
    let w = value on (condition_of c.in_ok-when.when) in
    let defined : value on (condition_of c.in_ok-defined.defined) ≡ is_some old =
    c.in_ok-defined.ensures on ∙ ap (λ (n : List ℕ). is_some (table_at on c.args.table.now n)) c.as_slice.ensures.value
    in
    c.in_ok-clash.ensures.table on name
    ∙ wider-table h w (table_at on c.args.table.now) m name (λ none. c.in_ok-when.ensures.same on (defined ∙ none))
