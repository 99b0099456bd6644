use Rattle.std.proofs.Common.{Some, ap, sym, ◌∙◌}
use Rattle.std.proofs.lemmas.Option.{slice_get-get_or}
use Rattle.conditional.proofs.values.place_of.Goals as goal

pub returns-then-is_same : goal.returns-then-is_same
returns-then-is_same g c = (
  c.index-alternatives-i.result,
  slice_get-get_or c.args.alternatives.now c.loop-i.i c.index-alternatives-i.result c.loop-i-test.true ∙ ap Some (sym c.index-alternatives-i.is),
  c.is_same.ensures c.if-is_same.true,
)
