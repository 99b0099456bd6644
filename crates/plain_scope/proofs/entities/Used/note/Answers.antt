use Rattle.std.proofs.Common.{◌≡◌, sym, rules}
use Rattle.plain_scope.proofs.NameLemmas.{noted}
use Rattle.plain_scope.proofs.entities.Used.note.Goals as goal

pub returns : goal.returns
returns c =
    let put = c.in_ok-insert.ensures.updates in
    let same : c.in_ok-from_slice.field-0.items ≡ c.args.name.now.text.items = search rules in
    let by_key = noted (λ k. k.items) c.in_ok-from_slice.field-0.items c.args.self.now.names.entries c.insert.new.self.entries tt put.1 put.3 in
    λ other. rw (sym same) (by_key other)
