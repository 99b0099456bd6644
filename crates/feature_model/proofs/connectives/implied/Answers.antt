use Rattle.std.proofs.Common.{Bool, not, ◌||◌, [], ◌∷◌, Some, map, ap, ◌∙◌, sym}
use Rattle.std.proofs.lemmas.List.{map-append}
use Rattle.std.proofs.lemmas.List.Elements.{All-pop}
use Rattle.feature_model.specs.Reading.{implied}
use Rattle.feature_model.specs.ReaderView.{value_in}
use Rattle.feature_model.specs.Bounds.{IsBelow}
use Rattle.feature_model.proofs.Complete.{implied-push}
use Rattle.feature_model.proofs.connectives.implied.Goals as goal

pub loop-premise-preserved : goal.loop-premise-preserved
loop-premise-preserved c =
    let xs = c.pop.new.self.items in
    let p = c.in-Some.premise in
    record {
      value = λ on.
          let op : Bool → Bool → Bool = λ a b. not a || b in
          let v = value_in on in
          ap (implied op (map v xs)) (c.in_ok-formula.ensures.value on)
          ∙ sym (implied-push op (map v xs) (v p) (v c.loop-premise.formula))
          ∙ ap (λ l. implied op l (v c.loop-premise.formula)) (sym (map-append v xs (p ∷ [])))
          ∙ ap (λ l. implied op (map v l) (v c.loop-premise.formula)) (sym c.in-Some.ensures.items)
          ∙ c.loop-premise.invariant.value on;
      below = λ count premises conclusion.
          let so_far = c.loop-premise.invariant.below count premises conclusion in
          let popped = All-pop (IsBelow count) _ xs (Some p) c.in-Some.ensures.items so_far.0 in
          (popped.0, c.in_ok-formula.ensures.below count popped.1 so_far.1);
    }
