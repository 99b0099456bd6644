use Rattle.std.proofs.Common.{sym, ap, ◌∙◌}
use Rattle.std.proofs.lemmas.Result.{IfOk-weaker}
use Rattle.c_types.specs.Types.{plain_type}
use Rattle.cond_formula.specs.Conditions.{value}
use Rattle.cond_formula.specs.ConditionLaws.{condition_of-True}
use Rattle.type_tables.specs.Seen.{seen_tables}
use Rattle.known_tables.proofs.Calling.{returned_as, void_returned}
use Rattle.known_tables.proofs.calls.where_returned.Goals as goal

pub returns-then-is_void : goal.returns-then-is_void
returns-then-is_void c = λ on. ap (value on) condition_of-True ∙ void_returned (seen_tables on c.args.tables.now) (plain_type c.args.ty.now) (sym c.is_void.ensures ∙ c.if-is_void.true)

pub returns : goal.returns
returns c = IfOk-weaker c.where_complete.result _ _ (λ z is on. is on ∙ returned_as (seen_tables on c.args.tables.now) (plain_type c.args.ty.now) (sym c.is_void.ensures ∙ c.if-is_void.false)) c.where_complete.ensures
