use Rattle.std.proofs.Common.{refl}
use Rattle.interp_actions.specs.StackLaws.{goes_on}
use Rattle.interp_expressions.proofs.begin_temporary.Goals as goal

pub returns : goal.returns
returns c = goes_on _ _ _ _ _ c.in_ok-push_three.ensures refl (λ p types slots n s. refl)
