use Rattle.quick_parser.proofs.NameLemmas.{with_test-map}
use Rattle.quick_parser.proofs.tested.TestedNames.note.Goals as goal

pub returns-in_ok-insert-clause-ok : goal.returns-in_ok-insert-clause-ok
returns-in_ok-insert-clause-ok c =
    rw (← c.self.view_is, ← c.in_ok-from_slice.ensures.items)
    (rw c.in_ok-insert.ensures.keys (with_test-map (λ v. v.items) c.self.inside.names.keys c.in_ok-from_slice.field-0))
