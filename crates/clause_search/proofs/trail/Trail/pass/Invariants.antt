use Rattle.std.proofs.Common.{take}
use Rattle.clause_search.specs.Answers.{literals_of, steps_of}
use Rattle.clause_search.specs.Following.{numbered}
use Rattle.clause_search.specs.Known.{known_of, IsPassing}
use Rattle.clause_search.proofs.trail.Trail.pass.Given as goal

abbrev pub invariant-loop-number : goal.invariant-loop-number
invariant-loop-number l =
    IsPassing (numbered (literals_of l.given) (steps_of l.steps)) (take l.number-index l.numbers) (known_of l.initial.self) (known_of l.self) l.changed
