use Rattle.std.proofs.Common.{refl}
use Rattle.std.specs.Prelude.{None}
use Rattle.std.proofs.lemmas.Result.{IfOk-weaker}
use Rattle.cond_formula.specs.Features.{has}
use Rattle.type_tables.specs.Seen.{seen_tables}
use Rattle.cond_initialisers.proofs.typed_initialisers.where_initialiser_refused.Goals as goal

pub returns-clause-refused : goal.returns-clause-refused
returns-clause-refused g c = IfOk-weaker c.where_refused.result _ _ (λ f holds n admitted scope follows t e there d path behind.
    holds n refl admitted None scope follows (c.locals_are_refused_by_types.ensures (seen_tables (has n) c.args.tables.now) scope follows) t e there d path behind) c.where_refused.ensures.refused
