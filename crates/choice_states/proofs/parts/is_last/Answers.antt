use Rattle.std.proofs.Common.{◌≡◌, ◌-◌, ◌<◌, false, List, [], ◌∷◌, length, IsTrue, subst, sym, ◌∙◌, arith}
use Rattle.std.specs.Bool.{◌==◌}
use Rattle.cond_formula.specs.declared.formulas.Formula.{Formula}
use Rattle.cond_formula.specs.Conditions.{Condition, value}
use Rattle.reduced_conditions.proofs.PartLemmas.{part_of_some}
use Rattle.choice_states.proofs.parts.is_last.Goals as goal

last_within : (xs : List Formula) → (length xs == 0) ≡ false → length xs - 1 < length xs
last_within [] h = absurd (cc h)
last_within (x ∷ xs) h = omega arith

pub returns : goal.returns
returns c = λ same on holds.
    part_of_some on c.args.parts.now (length c.args.parts.now - 1) c.index-parts-parts.result
    (last_within c.args.parts.now (sym c.is_empty.ensures ∙ c.if-is_empty.false)) c.index-parts-parts.is
    (subst (λ (d : Condition). IsTrue (value on d)) (sym (c.is_same.ensures same)) holds)
