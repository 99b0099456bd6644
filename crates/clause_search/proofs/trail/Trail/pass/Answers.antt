use Rattle.std.proofs.Common.{◌<◌, length, arith}
use Rattle.clause_search.specs.Answers.{literals_of, steps_of}
use Rattle.clause_search.specs.Following.{numbered}
use Rattle.clause_search.specs.Known.{known_of}
use Rattle.clause_search.proofs.KnownLaws.{passing-changed, passing-idle}
use Rattle.clause_search.proofs.trail.Trail.pass.Goals as goal
use Rattle.clause_search.proofs.trail.Trail.pass.Goals.{in-Extends, in-Idle}

pub loop-number-preserved : goal.loop-number-preserved
loop-number-preserved c =
    let clauses = numbered (literals_of c.args.given.now) (steps_of c.args.steps.now) in
    let numbers = c.args.numbers.now in
    let index = c.loop-number.number-index in
    let within : index < length numbers = omega arith in
    let first = known_of c.args.self.now in
    let before = known_of c.loop-number.self in
    let after = known_of c.look_up.new.self in
    elim c.match-branch-2.branch [
      | in-Extends w ↦ passing-changed clauses numbers index within c.in_ok-look_up.field-0 first before after c.loop-number.changed c.loop-number.invariant c.in_ok-look_up.ensures c.match-branch-2.changed w.changed-is
      | in-Idle w ↦ passing-idle clauses numbers index within c.in_ok-look_up.field-0 first before after c.loop-number.changed c.loop-number.invariant c.in_ok-look_up.ensures c.match-branch-2.changed w.changed-is w.in-Idle.is
    ]
