use Rattle.std.proofs.Common.{◌≡◌, sym, rules}
use Rattle.name_places.proofs.TableLemmas.{entered}
use Rattle.name_places.proofs.enter_place.Goals as goal

pub returns-clause-ok : goal.returns-clause-ok
returns-clause-ok c =
    let put = c.in_ok-insert.ensures.updates in
    let same : c.in_ok-from_slice.field-0.items ≡ c.args.name.now = search rules in
    let by_key = entered (λ k. k.items) c.in_ok-from_slice.field-0.items c.args.place c.args.table.now.entries c.insert.new.self.entries put.1 put.3 in
    rw (sym same) by_key
