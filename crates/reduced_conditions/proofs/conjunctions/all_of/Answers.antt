use Rattle.std.proofs.Common.{ℕ, nat_eq, sym, ap, ◌∙◌, arith}
use Rattle.reduced_conditions.proofs.LiteralLaws.{none_says}
use Rattle.reduced_conditions.proofs.conjunctions.all_of.Goals as goal

pub returns-then-is_empty : goal.returns-then-is_empty
returns-then-is_empty c = λ on. none_says on c.args.parts.items (ap (λ (n : ℕ). nat_eq n 0) (omega arith) ∙ sym c.is_empty.ensures ∙ c.if-is_empty.true)
