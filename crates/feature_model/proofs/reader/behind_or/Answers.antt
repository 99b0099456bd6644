use Rattle.std.proofs.Common.{Bool, Some, map, ap, ◌∙◌}
use Rattle.feature_model.specs.Reading.{wanting, truths}
use Rattle.feature_model.specs.ReaderView.{value_in, chain_view, outer_view}
use Rattle.feature_model.proofs.reader.behind_or.Goals as goal

pub returns-clause-value : goal.returns-clause-value
returns-clause-value c = λ features on.
    ap (λ r. Some r) (c.at_operand.ensures.value features on)
    ∙ ap
    (λ (x : Bool).
    wanting (truths features on)
    (record {
      same = chain_view (map (value_in on) c.args.sides.same.items);
      premises = map (value_in on) c.args.sides.premises.items;
      any = Some x;
    })
    (outer_view on c.args.outer))
    (c.in_ok-any.ensures.value on)
