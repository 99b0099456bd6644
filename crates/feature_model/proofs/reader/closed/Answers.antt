use Rattle.std.proofs.Common.{Some, ap, ◌∙◌, sym}
use Rattle.feature_model.specs.Reading.{truths, closed}
use Rattle.feature_model.specs.ReaderView.{value_in, wanting_view}
use Rattle.std.proofs.lemmas.List.Elements.{All-pop}
use Rattle.feature_model.specs.Bounds.{WantingBelow}
use Rattle.feature_model.proofs.ReaderLemmas.{reverse_last}
use Rattle.feature_model.proofs.reader.closed.Goals as goal

pub returns-in_ok-reader-in-Some-clause-value : goal.returns-in_ok-reader-in-Some-clause-value
returns-in_ok-reader-in-Some-clause-value c = λ features on.
    ap (λ r. Some r) (c.in_ok-reader-in-Some.ensures.value features on)
    ∙ ap (λ l. closed (truths features on) l (value_in on c.args.operand))
    (sym (reverse_last (wanting_view on) c.args.outer.items c.pop.new.self.items c.in-Some.waits c.in-Some.ensures.items))

pub returns-in_ok-reader-in-Some-clause-below : goal.returns-in_ok-reader-in-Some-clause-below
returns-in_ok-reader-in-Some-clause-below c = λ count outer operand.
    let popped = All-pop (WantingBelow count) _ c.pop.new.self.items (Some c.in-Some.waits) c.in-Some.ensures.items outer in
    c.in_ok-reader-in-Some.ensures.below count popped.1 popped.0 operand
