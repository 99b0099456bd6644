use Rattle.std.proofs.Common.{◌≡◌, sym, rules}
use Rattle.plain_link.specs.MapLaws.{put_there}
use Rattle.plain_link.proofs.definitions.add.Goals as goal

pub returns : goal.returns
returns c =
    let put = c.in_ok-insert.ensures.updates in
    let same : c.in_ok-from_slice.field-0.items ≡ c.args.defined.now.name.items = search rules in
    let by_key = put_there (λ k. k.items) c.in_ok-from_slice.field-0.items c.args.counts.now.entries c.insert.new.self.entries c.count_with-count.result put.1 put.3 in
    λ name. rw (sym c.count_with-count.ensures) (rw (sym same) (by_key name))
