use Rattle.std.proofs.Common.{ap, get_or}
use Rattle.plain_scope.specs.PlainScope.{plain_struct}
use Rattle.plain_structs.specs.PlainMembers.{plain_members}
use Rattle.plain_structs.specs.Structs.{completed_at, completed_beyond}
use Rattle.plain_structs.proofs.structs.complete_at.Goals as goal

pub returns-then-number-structs : goal.returns-then-number-structs
returns-then-number-structs c =
    let old = get_or c.args.structs.now c.args.number c.index-structs-number.result in
    completed_at plain_struct (plain_members c.args.known) c.args.structs.now c.args.number old c.complete.new.s c.if-number-structs.true (ap (get_or c.args.structs.now c.args.number) c.index-structs-number.is) c.complete.ensures

pub returns-else-number-structs : goal.returns-else-number-structs
returns-else-number-structs c =
    completed_beyond plain_struct (plain_members c.args.known) c.args.structs.now c.args.number c.if-number-structs.false
