use Rattle.std.proofs.Common.{map, arith}
use Rattle.std.proofs.lemmas.List.{length-map}
use Rattle.std.specs.List.{AllZip}
use Rattle.c_types.specs.Tags.{plain_member}
use Rattle.c_types.specs.Compatible.{MemberAgrees}
use Rattle.c_types.proofs.PairLaws.{notes_failed, same_length, members_none, members_failed, members_more}
use Rattle.c_types.proofs.pairs.members_agree.Goals as goal

pub returns-then-a-b : goal.returns-then-a-b
returns-then-a-b c =
    notes_failed (λ pairs. AllZip (MemberAgrees pairs) (map plain_member c.args.a.now) (map plain_member c.args.b.now)) c.args.found.now.items
    (λ pairs h.
    let same = same_length (MemberAgrees pairs) _ _ h in
    let lengths = simp length-map at same in
    omega arith)

pub loop-i-init : goal.loop-i-init
loop-i-init c = members_none c.args.a.now c.args.b.now c.args.found.now.items

pub returns-then-not-branch : goal.returns-then-not-branch
returns-then-not-branch c =
    members_failed c.args.a.now c.args.b.now c.loop-i.i c.index-a-i.result c.index-b-i.result c.args.found.now.items c.loop-i.found.items c.member_agrees.new.found.items (omega arith) (omega arith) c.index-a-i.is c.index-b-i.is c.loop-i.invariant (rw c.if-not-branch.true at c.in_ok-member_agrees.ensures)

pub loop-i-preserved : goal.loop-i-preserved
loop-i-preserved c =
    members_more c.args.a.now c.args.b.now c.loop-i.i c.index-a-i.result c.index-b-i.result c.args.found.now.items c.loop-i.found.items c.member_agrees.new.found.items (omega arith) (omega arith) c.index-a-i.is c.index-b-i.is c.loop-i.invariant (rw c.if-not-branch.false at c.in_ok-member_agrees.ensures)
