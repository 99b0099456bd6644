use Rattle.std.proofs.Common.{sym, ◌∙◌}
use Rattle.plain_numbers.specs.PlainLinked.{plain_linked, plain_list}
use Rattle.plain_numbers.proofs.PlaceLaws.{added_there, added_new}
use Rattle.plain_numbers.proofs.places.Listing.add.Goals as goal

pub returns-in-Some-clause-list : goal.returns-in-Some-clause-list
returns-in-Some-clause-list c = sym (added_there (plain_list c.args.self.now) (plain_linked c.args.name) c.in-Some.field-0 (sym c.in-Some.ensures))

pub returns-in_ok-put-in-None-clause-list : goal.returns-in_ok-put-in-None-clause-list
returns-in_ok-put-in-None-clause-list c = c.in_ok-put-in-None.ensures.list ∙ sym (added_new (plain_list c.args.self.now) (plain_linked c.args.name) (sym c.in-None.ensures))
