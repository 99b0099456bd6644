use Rattle.std.proofs.Common.{None, Some}
use Rattle.std.proofs.lemmas.Result.{IfOk-weaker}
use Rattle.type_tables.specs.Tables.{local_named}
use Rattle.type_tables.specs.Seen.{seen_tables}
use Rattle.known_tables.specs.Lookups.{found_in}
use Rattle.known_tables.proofs.Looking.{callee_found}
use Rattle.known_tables.proofs.callees.callee.Goals as goal

pub returns : goal.returns
returns c =
    IfOk-weaker c.looked_up.result _ _ (λ z sees on.
    let t = seen_tables on c.args.tables.now in
    record {
      number = found_in (λ ty. None) Some (local_named t.locals c.args.name.now) (t.names c.args.name.now);
      seen = sees on (λ ty. None) Some (record { objects_are = λ ty w s. s; functions_are = λ number w s. s });
      same = callee_found t (local_named t.locals c.args.name.now) (t.names c.args.name.now);
    }) c.looked_up.ensures
