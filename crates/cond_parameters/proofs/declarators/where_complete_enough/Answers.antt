use Rattle.std.proofs.Common.{not, ◌||◌, sym, ap, ◌∙◌}
use Rattle.cond_formula.specs.Conditions.{value}
use Rattle.cond_formula.specs.ConditionLaws.{condition_of-True, condition_of-False}
use Rattle.c_types.specs.Types.{plain_type}
use Rattle.type_tables.specs.Tables.{is_complete_type}
use Rattle.type_tables.specs.Seen.{seen_tables}
use Rattle.cond_parameters.proofs.ParameterTypes.{void_may_not, others_may}
use Rattle.cond_parameters.proofs.declarators.where_complete_enough.Goals as goal

pub returns-then-is_void : goal.returns-then-is_void
returns-then-is_void c = λ on scope follows whole there same.
    ap (value on) condition_of-False ∙ void_may_not c.args.defining scope follows.by (plain_type c.args.ty.now) whole same (sym c.is_void.ensures ∙ c.if-is_void.true)

pub returns-in_ok-complete : goal.returns-in_ok-complete
returns-in_ok-complete c = λ on scope follows whole there same.
    c.in_ok-complete.ensures on
    ∙ sym (ap (λ b. not b || is_complete_type (seen_tables on c.args.tables.now) (plain_type c.args.ty.now)) c.if-defining.true)
    ∙ others_may (seen_tables on c.args.tables.now) c.args.defining scope follows (plain_type c.args.ty.now) whole there same (sym c.is_void.ensures ∙ c.if-is_void.false)

pub returns-else-defining : goal.returns-else-defining
returns-else-defining c = λ on scope follows whole there same.
    ap (value on) condition_of-True
    ∙ sym (ap (λ b. not b || is_complete_type (seen_tables on c.args.tables.now) (plain_type c.args.ty.now)) c.if-defining.false)
    ∙ others_may (seen_tables on c.args.tables.now) c.args.defining scope follows (plain_type c.args.ty.now) whole there same (sym c.is_void.ensures ∙ c.if-is_void.false)
