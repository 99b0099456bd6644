use Rattle.std.proofs.Common.{◌≡◌, Bool, ◌&&◌, sym, ap, ◌∙◌}
use Rattle.cond_formula.specs.Features.{has}
use Rattle.cond_formula.specs.Conditions.{condition_of, value}
use Rattle.cond_formula.specs.ConditionLaws.{condition_of-False}
use Rattle.cond_formula.specs.declared.formulas.Formula.{False}
use Rattle.matched_lists.proofs.cells.move_on.Goals as goal

pub returns-then-is_never-clause-moves : goal.returns-then-is_never-clause-moves
returns-then-is_never-clause-moves g c = λ c' admitted.
    let here = value (has c') (condition_of c.args.here) in
    let nowhere : (rest : Bool) → value (has c') (condition_of False) ≡ (here && rest)
    = λ rest. ap (value (has c')) condition_of-False ∙ sym (ap (λ b. b && rest) (c.is_never.ensures c.if-is_never.true (has c'))) in
    record { first_moves = nowhere _; second_moves = nowhere _; both_move = nowhere _ }
