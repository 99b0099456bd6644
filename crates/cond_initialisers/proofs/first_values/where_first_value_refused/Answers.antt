use Rattle.std.proofs.Common.{refl}
use Rattle.std.specs.Prelude.{Some}
use Rattle.std.proofs.lemmas.Result.{IfOk-weaker}
use Rattle.cond_formula.specs.Features.{has}
use Rattle.type_tables.specs.Seen.{seen_tables}
use Rattle.cond_initialisers.proofs.first_values.where_first_value_refused.Goals as goal

pub returns-clause-refused : goal.returns-clause-refused
returns-clause-refused g c = IfOk-weaker c.where_refused.result _ _ (λ f holds n admitted scope follows outside t e there d globals path behind.
    holds n refl admitted (Some globals) scope follows (c.globals_are_refused_by_constants.ensures (seen_tables (has n) c.args.tables.now) scope follows outside globals) t e there d path behind)
    c.where_refused.ensures.refused
