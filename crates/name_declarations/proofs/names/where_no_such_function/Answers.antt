use Rattle.std.proofs.Common.{◌&&◌, ap, ◌∙◌}
use Rattle.std.proofs.lemmas.Result.{IfOk-weaker}
use Rattle.cond_formula.specs.Features.{has}
use Rattle.cond_formula.specs.Conditions.{condition_of, value}
use Rattle.c_types.specs.Types.{plain_type}
use Rattle.plain_objects.specs.PlainStates.{plain_storage}
use Rattle.type_tables.specs.Seen.{seen_tables}
use Rattle.name_declarations.proofs.Scopes.{no_such_alike}
use Rattle.name_declarations.proofs.names.where_no_such_function.Goals as goal

pub returns-clause-exact : goal.returns-clause-exact
returns-clause-exact g c = IfOk-weaker c.where_name_conflicts.result _ _ (λ f is n admitted scope follows ty e.
    is n admitted
    ∙ ap (λ b. value (has n) (condition_of c.args.when.now) && b) (no_such_alike (seen_tables (has n) c.args.tables.now) scope follows (plain_storage c.args.storage) c.args.name.now ty (plain_type c.args.returns.now) e))
    c.where_name_conflicts.ensures.exact
