use Rattle.std.proofs.Common.{subst, sym}
use Rattle.choice_settling.specs.Leaving.{StaysInside}
use Rattle.choice_settling.proofs.LeavingLemmas.{at_inside, in_inside}
use Rattle.choice_settling.proofs.alternatives.is_inside.Goals as goal

pub returns-in-At : goal.returns-in-At
returns-in-At c = λ is. subst StaysInside (sym c.in-At.is) (at_inside c.in-At.field-0 c.in-At.field-1)

pub returns-in-In : goal.returns-in-In
returns-in-In c = λ is. subst StaysInside (sym c.in-In.is) (in_inside c.in-In.field-0 c.in-In.field-1 c.in-In.field-2)
