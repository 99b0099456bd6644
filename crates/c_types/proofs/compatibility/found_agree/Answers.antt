use Rattle.std.proofs.Common.{map, refl, arith}
use Rattle.c_types.specs.Tags.{plain_tag}
use Rattle.c_types.proofs.ClosureLaws.{compared_start, compared_all, compared_failed, compared_more}
use Rattle.c_types.proofs.compatibility.found_agree.Goals as goal

pub loop-done-init : goal.loop-done-init
loop-done-init c = compared_start (map plain_tag c.args.first.now) (map plain_tag c.args.second.now) c.args.found.items

pub returns-then-done-len : goal.returns-then-done-len
returns-then-done-len c =
    (λ t. compared_all (map plain_tag c.args.first.now) (map plain_tag c.args.second.now) c.args.found.items c.loop-done.done c.loop-done.found.items c.loop-done.invariant (omega arith), λ h. refl)

pub returns-then-not-branch : goal.returns-then-not-branch
returns-then-not-branch c =
    let notes = rw c.if-not-branch.true at c.in_ok-pair_agrees.ensures in
    (λ t. absurd cc, λ h. absurd (compared_failed (map plain_tag c.args.first.now) (map plain_tag c.args.second.now) c.args.found.items c.loop-done.done c.index.result.now c.loop-done.found.items c.pair_agrees.new.found.items c.loop-done.invariant (omega arith) c.index.ensures notes h))

pub loop-done-preserved : goal.loop-done-preserved
loop-done-preserved c =
    let notes = rw c.if-not-branch.false at c.in_ok-pair_agrees.ensures in
    compared_more (map plain_tag c.args.first.now) (map plain_tag c.args.second.now) c.args.found.items c.loop-done.done c.index.result.now c.loop-done.found.items c.pair_agrees.new.found.items c.loop-done.invariant (omega arith) c.index.ensures notes
