use Rattle.std.proofs.Common.{Bool, ◌&&◌, ap, ◌∙◌}
use Rattle.cond_formula.specs.Conditions.{conditions_of, all_true}
use Rattle.reduced_conditions.proofs.LiteralLaws.{all_with}
use Rattle.reduced_conditions.proofs.conjunctions.with_negation.Goals as goal

pub returns : goal.returns
returns c = λ on.
    all_with on c.args.parts.items c.push.new.self.items c.in_ok-negation.negation c.in_ok-push.ensures.items
    ∙ ap (λ (b : Bool). all_true on (conditions_of c.args.parts.items) && b) (c.in_ok-negation.ensures.holds on)
