use Rattle.std.proofs.Common.{◌≡◌, ◌||◌, false, nat_lt, refl, ap, ◌∙◌, arith}
use Rattle.std.proofs.lemmas.Bool.Decides.{nat_tests}
use Rattle.cond_formula.specs.Features.{has}
use Rattle.cond_formula.specs.Conditions.{Condition, condition_of, value}
use Rattle.cond_formula.specs.ConditionLaws.{condition_of-Var}
use Rattle.macro_table.proofs.FeatureLemmas.{never_added}
use Rattle.macro_table.proofs.macros.with_feature.Goals as goal

pub returns-then-number-lt128 : goal.returns-then-number-lt128
returns-then-number-lt128 c = λ n.
    c.in_ok-either.ensures.holds (has n)
    ∙ ap (λ (d : Condition). value (has n) (condition_of c.args.on) || value (has n) d) (condition_of-Var c.args.number)

pub returns : goal.returns
unfolding has
returns c = λ n.
    let past : nat_lt c.args.number 128 ≡ false = grind (arith, nat_tests) in
    never_added (value (has n) (condition_of c.args.on)) (has n c.args.number) (rw past refl)
