use Rattle.std.proofs.Common.{ℕ, Bool, ◌↔◌, bit_or}
use Rattle.reduced_conditions.specs.declared.literals.Literals.{Literals}
use Rattle.reduced_conditions.specs.Literals.{AreTrue}
use Rattle.reduced_conditions.proofs.LiteralLaws.{on_both, off_both, of_left, of_right}
use Rattle.reduced_conditions.proofs.literals.Literals.and.Goals as goal

are_both : (on : ℕ → Bool) (a b : Literals) (all : Bool) → AreTrue on record { on = bit_or a.on b.on; off = bit_or a.off b.off; are_all = all } ↔ (AreTrue on a × AreTrue on b)
are_both on a b all = (
  λ are. (
    record { each_on = λ i is. are.each_on i (of_left a.on b.on i is); each_off = λ i is. are.each_off i (of_left a.off b.off i is) },
    record { each_on = λ i is. are.each_on i (of_right a.on b.on i is); each_off = λ i is. are.each_off i (of_right a.off b.off i is) },
  ),
  λ both. record {
    each_on = on_both on a.on b.on both.0.each_on both.1.each_on;
    each_off = off_both on a.off b.off both.0.each_off both.1.each_off;
  },
)

pub returns-then-self : goal.returns-then-self
returns-then-self c = λ on. are_both on c.args.self.now c.args.others.now c.args.others.now.are_all

pub returns-else-self : goal.returns-else-self
returns-else-self c = λ on. are_both on c.args.self.now c.args.others.now c.args.self.now.are_all
