use Rattle.std.proofs.Common.{◌∙◌}
use Rattle.declared_tokens.proofs.Entries.{one_more}
use Rattle.declared_tokens.specs.Declarations.{declared_at}
use Rattle.declared_tokens.proofs.tokens.DeclaredTokens.from_pairs.Goals as goal

pub loop-pair-preserved : goal.loop-pair-preserved
loop-pair-preserved c = (
  c.in_ok-add.ensures.many ∙ c.loop-pair.invariant.0,
  λ on token. one_more on token c.args.pairs.now c.pair-item.result c.loop-pair.pair-index c.loop-pair-test.true c.pair-item.is (declared_at on c.loop-pair.all token) _ (c.in_ok-add.ensures.added on token)
      (c.loop-pair.invariant.1 on token),
)
