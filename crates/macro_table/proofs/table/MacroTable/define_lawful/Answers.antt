use Rattle.std.proofs.Common.{ℕ, List, [], ◌∷◌, ap, ◌∙◌}
use Rattle.c_text.specs.Directives.{PlainMacro}
use Rattle.c_text.specs.PlainMacros.{plain_macro}
use Rattle.cond_formula.specs.Conditions.{Condition, condition_of, value}
use Rattle.cond_formula.specs.ConditionLaws.{condition_of-True}
use Rattle.conditional.specs.Entries.{listed, first, or_later, seen, under}
use Rattle.macro_table.specs.PlainDefinitions.{plain_definition}
use Rattle.macro_table.specs.MacroTables.{definitions_of}
use Rattle.macro_table.proofs.TableLemmas.{after_define}
use Rattle.macro_table.proofs.table.MacroTable.define_lawful.Goals as goal

pub returns-clause-table : goal.returns-clause-table
returns-clause-table c = λ on name.
    let before = definitions_of c.args.self.now in
    let m = plain_macro c.args.m.now in
    let copy = plain_macro c.in_ok-copied.field-0 in
    let named = c.as_slice-name.ensures.value in
    after_define on (value on (condition_of c.args.when.now)) m before (definitions_of c.put.new.self) (listed plain_definition c.push_otherwise.new.self)
    (λ other. let put = c.in_ok-put.ensures.put other in rw named at put)
    (c.in_ok-push_otherwise.ensures on
    ∙ ap (λ (l : List PlainMacro). or_later (first l) (first (under (value on (condition_of c.in_ok-try_clone-2.field-0)) (copy ∷ []))))
    (c.in_ok-list.ensures on ∙ ap (λ (d : Condition). under (value on d) (seen on (before c.as_slice-name.result.now))) condition_of-True ∙ ap (λ (n : List ℕ). seen on (before n)) named)
    ∙ ap (λ (d : Condition). or_later (first (seen on (before m.name))) (first (under (value on d) (copy ∷ [])))) c.in_ok-try_clone-2.ensures
    ∙ ap (λ (n : PlainMacro). or_later (first (seen on (before m.name))) (first (under (value on (condition_of c.args.when.now)) (n ∷ [])))) c.in_ok-copied.ensures)
    name
