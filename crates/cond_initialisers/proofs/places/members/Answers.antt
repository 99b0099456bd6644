use Rattle.std.proofs.Common.{ℕ, ◌&&◌, ap, ap₂, ◌∙◌}
use Rattle.cond_formula.specs.Conditions.{Condition, condition_of, value}
use Rattle.conditional.proofs.ListLaws.{seen_push}
use Rattle.cond_initialisers.specs.Rows.{plain_types, numbers}
use Rattle.cond_initialisers.proofs.Members.{members_start, members_step, members_end}
use Rattle.cond_initialisers.proofs.places.members.Goals as goal

pub loop-member-init : goal.loop-member-init
loop-member-init c = λ on.
    members_start on (value on (condition_of c.args.s.now.complete)) c.deref-member-items.result.now (plain_types c.args.types.now.items) (numbers on c.new-parts.result.items)
    (ap (numbers on) c.new-parts.ensures.items)

pub loop-member-preserved : goal.loop-member-preserved
loop-member-preserved c = λ on.
    members_step on (value on (condition_of c.args.s.now.complete)) c.deref-member-items.result.now c.member-item.result c.loop-member.member-index
    (plain_types c.loop-member.types.items) (plain_types c.number_of.new.types.items) (numbers on c.loop-member.parts.items) (numbers on c.push.new.self.items)
    (value on (condition_of c.in_ok-when.when)) c.in_ok-what.what c.loop-member-test.true c.member-item.is
    (c.in_ok-when.ensures on ∙ ap₂ (λ (a b : Condition). value on a && value on b) c.in_ok-try_clone.ensures c.in_ok-complete.ensures)
    c.in_ok-what.ensures.extends c.in_ok-what.ensures.number
    (seen_push (λ (n : ℕ). n) on c.loop-member.parts.items c.push.new.self.items (record { when = c.in_ok-when.when; what = c.in_ok-what.what }) c.in_ok-push.ensures.items)
    (c.loop-member.invariant on)

pub returns : goal.returns
returns c = λ on.
    members_end on c.args.s.now c.deref-member-items.result.now c.loop-member.member-index (plain_types c.loop-member.types.items) (numbers on c.loop-member.parts.items)
    c.deref-member-items.ensures.value c.loop-member-test.false (c.loop-member.invariant on)
