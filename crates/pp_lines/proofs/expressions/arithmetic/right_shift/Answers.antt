use Rattle.std.proofs.Common.{rules, ℕ, ℤ, Option, Some, ap, sym, ◌∙◌}
use Rattle.std.specs.Prelude.{FitsSigned}
use Rattle.std.specs.Int.{w64, int_shr}
use Rattle.std.proofs.lemmas.Int.{to_z-of_z}
use Rattle.c_text.specs.Expressions.{shifted}
use Rattle.pp_lines.proofs.expressions.arithmetic.right_shift.Goals as goal

pub returns-in-Some : goal.returns-in-Some
returns-in-Some c =
    let by : ℕ → Option ℤ = λ count. Some (int_shr c.args.left count) in
    let left = to_z-of_z w64 c.args.left c.ranges.left in
    let right = to_z-of_z w64 c.args.right c.ranges.right in
    let fits : FitsSigned w64 c.shifted_right.result = search rules in
    ap (λ (z : ℤ). Some z)
    (to_z-of_z w64 c.shifted_right.result fits
    ∙ c.shifted_right.ensures
    ∙ ap (λ (z : ℤ). int_shr z c.in-Some.count) left)
    ∙ sym (c.in-Some.ensures.count by)
    ∙ ap (shifted by) right

pub returns-in-None : goal.returns-in-None
returns-in-None c =
    let by : ℕ → Option ℤ = λ count. Some (int_shr c.args.left count) in
    let right = to_z-of_z w64 c.args.right c.ranges.right in
    sym (c.in-None.ensures.count by) ∙ ap (shifted by) right
