use Rattle.std.proofs.Common.{ℤ, ap, sym, ◌∙◌}
use Rattle.std.specs.Int.{w64}
use Rattle.std.proofs.lemmas.Int.{to_z-of_z}
use Rattle.c_text.specs.Expressions.{shifted, shifted_left}
use Rattle.pp_lines.proofs.expressions.arithmetic.left_shift.Goals as goal

pub returns-in-Some : goal.returns-in-Some
returns-in-Some c =
    let left = to_z-of_z w64 c.args.left c.ranges.left in
    let right = to_z-of_z w64 c.args.right c.ranges.right in
    c.shifted_left.ensures
    ∙ ap (λ (z : ℤ). shifted_left z c.in-Some.count) left
    ∙ sym (c.in-Some.ensures.count (shifted_left c.args.left))
    ∙ ap (shifted (shifted_left c.args.left)) right

pub returns-in-None : goal.returns-in-None
returns-in-None c =
    let right = to_z-of_z w64 c.args.right c.ranges.right in
    sym (c.in-None.ensures.count (shifted_left c.args.left)) ∙ ap (shifted (shifted_left c.args.left)) right
