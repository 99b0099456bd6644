use Rattle.std.proofs.Common.{Bool, not, ◌||◌, [], ◌∷◌, Some, map, ap, ◌∙◌}
use Rattle.std.proofs.lemmas.List.{map-append}
use Rattle.std.proofs.lemmas.List.Elements.{All-same, All-push}
use Rattle.feature_model.specs.Reading.{joined_sides, implied}
use Rattle.feature_model.specs.ReaderView.{value_in, chain_view}
use Rattle.feature_model.specs.Bounds.{IsBelow}
use Rattle.feature_model.proofs.Chains.{same, chain_view-push}
use Rattle.feature_model.proofs.reader.operands.Goals as goal

pub returns-clause-value : goal.returns-clause-value
returns-clause-value c = λ features on.
    let v = value_in on in
    let operands = c.args.sides.same.items in
    let leads_to : Bool → Bool → Bool = λ a b. not a || b in
    ap (λ l. chain_view (map v l)) c.in_ok-all.ensures
    ∙ ap chain_view (map-append v operands (c.in_ok-operand.operand ∷ []))
    ∙ chain_view-push (map v operands) (v c.in_ok-operand.operand)
    ∙ ap (λ (t : Bool). Some (joined_sides same (chain_view (map v operands)) t))
    (c.in_ok-operand.ensures.value on
    ∙ ap (implied leads_to (map v c.args.sides.premises.items)) (c.in_ok-conclusion.ensures.value on))

pub returns-clause-below : goal.returns-clause-below
returns-clause-below c = λ count has.
    let Is = IsBelow count in
    let conclusion = c.in_ok-conclusion.ensures.below count has.sides.any has.conjuncts in
    let operand = c.in_ok-operand.ensures.below count has.sides.premises conclusion in
    All-same Is _ _ c.in_ok-all.ensures (All-push Is _ _ has.sides.same operand)
