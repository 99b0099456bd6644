use Rattle.std.proofs.Common.{◌<◌, length, arith, rules}
use Rattle.c_types.specs.Types.{plain_type}
use Rattle.c_tree.specs.Trees.{plain_trees}
use Rattle.core_meaning.specs.Checking.{Checked}
use Rattle.core_meaning.specs.UnitNames.{Members, members_from}
use Rattle.plain_scope.specs.PlainScope.{plain_scope, uses_of}
use Rattle.plain_scope.specs.Judgements.{RefusedAs}
use Rattle.plain_structs.specs.PlainMembers.{plain_members}
use Rattle.plain_structs.specs.Leading.{leads_from}
use Rattle.plain_structs.specs.Members.{members_continue, members_end, members_refused}
use Rattle.plain_structs.proofs.members.members_from.Goals as goal

pub loop-place-init : goal.loop-place-init
loop-place-init c = record {
  so_far = leads_from (members_from (plain_scope c.args.scope.now) c.args.number (plain_members c.args.known.now) (plain_type c.args.base.now) (plain_trees c.args.list.now)) (uses_of c.args.used.now);
}

pub returns-in_err-one_member : goal.returns-in_err-one_member
returns-in_err-one_member c =
    let inside : c.loop-place.place < length c.args.list.now = search rules in
    let whole : Checked Members = members_from (plain_scope c.args.scope.now) c.args.number (plain_members c.args.known.now) (plain_type c.args.base.now) (plain_trees c.args.list.now) in
    let outer : RefusedAs whole c.in_err-one_member.field-0.0 = members_refused whole (plain_scope c.args.scope.now) c.args.number (plain_members c.loop-place.known) (plain_type c.args.base.now) c.args.list.now c.index-list-place.result c.loop-place.place (uses_of c.args.used.now) (uses_of c.loop-place.used) c.in_err-one_member.field-0.0 inside c.index-list-place.is c.loop-place.invariant.so_far c.in_err-one_member.ensures in
    search (rules, outer)

pub returns-then-list-place-eq1 : goal.returns-then-list-place-eq1
returns-then-list-place-eq1 c =
    let whole : Checked Members = members_from (plain_scope c.args.scope.now) c.args.number (plain_members c.args.known.now) (plain_type c.args.base.now) (plain_trees c.args.list.now) in
    members_end whole (plain_scope c.args.scope.now) c.args.number (plain_members c.loop-place.known) (plain_members c.one_member.new.known) (plain_type c.args.base.now) c.args.list.now c.index-list-place.result c.loop-place.place (uses_of c.args.used.now) (uses_of c.loop-place.used) (uses_of c.one_member.new.used) (omega (arith, c.if-list-place-eq1.true)) c.index-list-place.is c.loop-place.invariant.so_far c.in_ok-one_member.ensures

pub loop-place-preserved : goal.loop-place-preserved
loop-place-preserved c =
    let whole : Checked Members = members_from (plain_scope c.args.scope.now) c.args.number (plain_members c.args.known.now) (plain_type c.args.base.now) (plain_trees c.args.list.now) in
    record {
      so_far = members_continue whole (plain_scope c.args.scope.now) c.args.number (plain_members c.loop-place.known) (plain_members c.one_member.new.known) (plain_type c.args.base.now) c.args.list.now c.index-list-place.result c.loop-place.place (uses_of c.args.used.now) (uses_of c.loop-place.used) (uses_of c.one_member.new.used) (omega (arith, c.if-list-place-eq1.false)) c.index-list-place.is c.loop-place.invariant.so_far c.in_ok-one_member.ensures;
    }
