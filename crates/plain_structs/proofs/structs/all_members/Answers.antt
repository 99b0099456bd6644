use Rattle.std.proofs.Common.{arith, rules}
use Rattle.c_tree.specs.Trees.{plain_trees}
use Rattle.core_meaning.specs.Checking.{Checked}
use Rattle.core_meaning.specs.UnitNames.{AllMembers, all_members}
use Rattle.plain_scope.specs.PlainScope.{plain_scope, uses_of}
use Rattle.plain_scope.specs.Judgements.{RefusedAs}
use Rattle.plain_structs.specs.PlainMembers.{plain_members}
use Rattle.plain_structs.specs.Structs.{no_members, all_continue, all_refused, all_done}
use Rattle.plain_structs.proofs.structs.all_members.Goals as goal

pub returns-in_err-member_declaration : goal.returns-in_err-member_declaration
returns-in_err-member_declaration c =
    let whole : Checked AllMembers = all_members (plain_scope c.args.scope.now) c.args.number no_members (plain_trees c.args.list.now) in
    let outer : RefusedAs whole c.in_err-member_declaration.field-0.0 = all_refused whole (plain_scope c.loop-i.scope) c.args.number (plain_members c.loop-i.known) c.args.list.now c.index-list-i.result c.loop-i.i (uses_of c.args.used.now) (uses_of c.loop-i.used) c.in_err-member_declaration.field-0.0 (omega (arith, c.loop-i.invariant.all)) c.index-list-i.is c.loop-i.invariant.so_far c.in_err-member_declaration.ensures in
    search (rules, outer)

pub loop-i-preserved : goal.loop-i-preserved
loop-i-preserved c =
    let whole : Checked AllMembers = all_members (plain_scope c.args.scope.now) c.args.number no_members (plain_trees c.args.list.now) in
    record {
      all = c.loop-i.invariant.all;
      so_far = all_continue whole (plain_scope c.loop-i.scope) (plain_scope c.member_declaration.new.scope) c.args.number (plain_members c.loop-i.known) (plain_members c.member_declaration.new.known) c.args.list.now c.index-list-i.result c.loop-i.i (uses_of c.args.used.now) (uses_of c.loop-i.used) (uses_of c.member_declaration.new.used) (omega (arith, c.loop-i.invariant.all)) c.index-list-i.is c.loop-i.invariant.so_far c.in_ok-member_declaration.ensures;
    }

pub returns : goal.returns
returns c =
    let whole : Checked AllMembers = all_members (plain_scope c.args.scope.now) c.args.number no_members (plain_trees c.args.list.now) in
    all_done whole (plain_scope c.loop-i.scope) c.args.number (plain_members c.loop-i.known) c.args.list.now c.loop-i.i (uses_of c.args.used.now) (uses_of c.loop-i.used) (omega (arith, c.loop-i.invariant.all)) c.loop-i.invariant.so_far
