use Rattle.std.proofs.Common.{Bool, List, Option, Some, None, [], map, ap, ◌∙◌}
use Rattle.std.proofs.lemmas.List.Elements.{All-nil, All-same}
use Rattle.cond_formula.specs.declared.formulas.Formula.{Formula}
use Rattle.feature_model.specs.Bounds.{IsBelow}
use Rattle.feature_model.specs.Reading.{wanting, truths}
use Rattle.feature_model.specs.ReaderView.{value_in, chain_view, outer_view}
use Rattle.feature_model.proofs.reader.behind_equals.Goals as goal

pub returns-clause-value : goal.returns-clause-value
returns-clause-value c = λ features on.
    ap (λ r. Some r) (c.at_operand.ensures.value features on)
    ∙ ap
    (λ (l : List Formula).
    wanting (truths features on)
    (record { same = chain_view (map (value_in on) c.in_ok-same.same.items); premises = map (value_in on) l; any = None })
    (outer_view on c.args.outer))
    c.new.ensures.items
    ∙ ap
    (λ (same : Option Bool).
    wanting (truths features on) (record { same = same; premises = []; any = None }) (outer_view on c.args.outer))
    (c.in_ok-same.ensures.value features on)

pub returns-clause-below : goal.returns-clause-below
returns-clause-below c = λ count has outer.
    let Is = IsBelow count in
    c.at_operand.ensures.below count
    (record {
      same = c.in_ok-same.ensures.below count has;
      premises = All-same Is _ [] c.new.ensures.items (All-nil Is);
      any = tt;
    })
    outer
