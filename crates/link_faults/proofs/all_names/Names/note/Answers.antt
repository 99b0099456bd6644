use Rattle.link_faults.proofs.Noting.{with_name-map}
use Rattle.link_faults.proofs.all_names.Names.note.Goals as goal

pub returns-in_ok-insert : goal.returns-in_ok-insert
returns-in_ok-insert c =
    rw (← c.self.view_is, ← c.in_ok-from_slice.ensures.items)
    (rw c.in_ok-insert.ensures.keys (with_name-map (λ v. v.items) c.self.inside.names.keys c.in_ok-from_slice.field-0))
