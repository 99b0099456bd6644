use Rattle.std.proofs.Common.{None, Some, subst}
use Rattle.std.proofs.lemmas.Result.{IfOk-weaker}
use Rattle.cond_operands.specs.Operands.{ShowsOperand}
use Rattle.type_tables.specs.Tables.{local_named, object_of}
use Rattle.type_tables.specs.Seen.{seen_tables}
use Rattle.known_tables.specs.Lookups.{found_in}
use Rattle.known_tables.proofs.Looking.{object_found}
use Rattle.known_tables.proofs.objects.object.Goals as goal

pub returns : goal.returns
returns c =
    IfOk-weaker c.or_refused.result _ _ (λ z shows on.
    let t = seen_tables on c.args.tables.now in
    subst (λ outcome. ShowsOperand on outcome z) (object_found t (local_named t.locals c.args.name.now) (t.names c.args.name.now))
    (shows on (found_in (λ ty. Some (object_of t ty)) (λ number. None) (local_named t.locals c.args.name.now) (t.names c.args.name.now))
    (c.in_ok-found.ensures on (λ ty. Some (object_of t ty)) (λ number. None) (record { objects_are = λ ty w sees. sees; functions_are = λ number w sees. sees })))) c.or_refused.ensures
