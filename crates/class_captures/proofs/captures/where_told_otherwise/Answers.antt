use Rattle.std.proofs.Common.{Bool, sym, ap, subst}
use Rattle.cond_formula.specs.Conditions.{value}
use Rattle.cond_formula.specs.ConditionLaws.{condition_of-True}
use Rattle.tied_tokens.proofs.Members.{never}
use Rattle.bound_otherwise.specs.Otherwise.{TellsOtherwise}
use Rattle.class_captures.proofs.Captured.{as-many}
use Rattle.class_captures.proofs.captures.where_told_otherwise.Goals as goal

pub where_bound_otherwise-requires : goal.where_bound_otherwise-requires
where_bound_otherwise-requires c = c.are_as_many.ensures.0 c.if-not-are_as_many.false

pub returns-then-not-are_as_many : goal.returns-then-not-are_as_many
returns-then-not-are_as_many c = λ on.
    subst (λ (b : Bool). TellsOtherwise b on c.args.before.now c.args.after.now) (sym (ap (value on) condition_of-True))
    (λ alike. never c.if-not-are_as_many.true (c.are_as_many.ensures.1 (as-many on c.args.before.now c.args.after.now alike)))
