use Rattle.std.proofs.Common.{[], ◌∷◌, ◌+◌, sym, ap, subst}
use Rattle.std.proofs.lemmas.List.{length-append}
use Rattle.plain_elab.specs.PlainStates.{HaveNoNumbers}
use Rattle.plain_elab.proofs.NumberLaws.{none_more}
use Rattle.plain_elab.proofs.judging.unnumbered.Goals as goal

pub loop-index-preserved : goal.loop-index-preserved
loop-index-preserved c = (
  rw c.in_ok-push.ensures.items (rw (length-append c.loop-index.all.items (c.no_number.result ∷ [])) (ap (λ n. n + 1) c.loop-index.invariant.0)),
  subst HaveNoNumbers (sym c.in_ok-push.ensures.items) (none_more c.loop-index.all.items c.no_number.result c.loop-index.invariant.1 c.no_number.ensures),
)
