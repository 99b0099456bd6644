use Rattle.std.proofs.Common.{ℕ, [], ◌∷◌, ◌++◌, ap, ◌∙◌}
use Rattle.cond_formula.specs.declared.formulas.Formula.{True}
use Rattle.cond_formula.specs.Conditions.{value}
use Rattle.cond_formula.specs.ConditionLaws.{condition_of-True}
use Rattle.conditional.specs.Entries.{under}
use Rattle.conditional.proofs.ListLaws.{seen_push}
use Rattle.cond_initialisers.specs.Rows.{numbers}
use Rattle.cond_initialisers.proofs.Numbered.{one_more_same}
use Rattle.cond_initialisers.proofs.places.repeated.Goals as goal

pub loop-preserved : goal.loop-preserved
loop-preserved c = λ on.
    seen_push (λ (n : ℕ). n) on c.loop.parts.items c.push.new.self.items (record { when = True; what = 0 }) c.in_ok-push.ensures.items
    ∙ (ap (λ b. numbers on c.loop.parts.items ++ under b (0 ∷ [])) (ap (value on) condition_of-True)
    ∙ (ap (λ l. l ++ 0 ∷ []) (c.loop.invariant on) ∙ one_more_same c.loop.counter 0))
