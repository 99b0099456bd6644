use Rattle.std.proofs.Common.{Bool, sym, ap, ◌∙◌, if◌then◌else◌}
use Rattle.cond_formula.specs.Conditions.{condition_of, value}
use Rattle.cond_formula.specs.ConditionLaws.{condition_of-False}
use Rattle.macro_table.specs.MacroTables.{is_barred_name, table_at, without_name}
use Rattle.macro_table.proofs.TableLemmas.{never_both, unless_barred}
use Rattle.macro_table.proofs.table.MacroTable.undef.Goals as goal

pub returns-clause-refused : goal.returns-clause-refused
returns-clause-refused c = λ on.
    ap (value on) condition_of-False
    ∙ never_both (value on (condition_of c.args.when.now)) (is_barred_name c.args.name.now) (sym c.is_barred_name.ensures ∙ c.if-is_barred_name.false)

pub returns-clause-table : goal.returns-clause-table
returns-clause-table c = λ on other.
    c.in_ok-undef_lawful.ensures.table on other
    ∙ ap (λ (b : Bool). if b then without_name (table_at on c.args.self.now) c.args.name.now other else table_at on c.args.self.now other)
    (unless_barred (value on (condition_of c.args.when.now)) (is_barred_name c.args.name.now) (sym c.is_barred_name.ensures ∙ c.if-is_barred_name.false))
