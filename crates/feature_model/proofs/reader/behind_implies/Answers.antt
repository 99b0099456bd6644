use Rattle.std.proofs.Common.{Bool, List, Option, Some, None, [], ◌∷◌, ◌++◌, map, ap, ◌∙◌}
use Rattle.feature_model.specs.Reading.{Reading, wanting, truths}
use Rattle.feature_model.specs.ReaderView.{value_in, chain_view, outer_view}
use Rattle.feature_model.proofs.reader.behind_implies.Goals as goal

pub returns-clause-value : goal.returns-clause-value
returns-clause-value c = λ features on.
    let F : List Bool → Option (Reading Bool Bool) = λ l.
    wanting (truths features on)
    (record { same = chain_view (map (value_in on) c.args.sides.same.items); premises = l; any = None })
    (outer_view on c.args.outer)
    in
    ap (λ r. Some r) (c.at_operand.ensures.value features on)
    ∙ ap F (c.in_ok-premises.ensures.value on)
    ∙ ap (λ (x : Bool). F (map (value_in on) c.args.sides.premises.items ++ x ∷ [])) (c.in_ok-premise.ensures.value on)

pub returns-clause-below : goal.returns-clause-below
returns-clause-below c = λ count has outer.
    let premise = c.in_ok-premise.ensures.below count has.sides.any has.conjuncts in
    c.at_operand.ensures.below count
    (record {
      same = has.sides.same;
      premises = c.in_ok-premises.ensures.below count has.sides.premises premise;
      any = tt;
    })
    outer
