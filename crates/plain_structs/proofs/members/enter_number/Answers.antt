use Rattle.std.proofs.Common.{◌≡◌, sym, rules}
use Rattle.plain_scope.proofs.NameLemmas.{entered}
use Rattle.plain_structs.proofs.members.enter_number.Goals as goal

pub returns : goal.returns
returns c =
    let put = c.in_ok-insert.ensures.updates in
    let same : c.in_ok-from_slice.field-0.items ≡ c.args.name.now = search rules in
    let by_key = entered (λ k. k.items) c.in_ok-from_slice.field-0.items c.args.numbers.now.entries c.insert.new.self.entries c.args.number put.1 put.3 in
    rw (sym same) by_key
