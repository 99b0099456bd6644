use Rattle.std.proofs.Common.{arith, ◌≡◌, ◌≤◌, ◌<◌, ℕ, ◌+◌, true, false, nat_lt, length, sym, ap, ◌∙◌, subst}
use Rattle.std.proofs.lemmas.Bool.Decides.{nat_tests}
use Rattle.std.proofs.lemmas.List.{length_push}
use Rattle.cond_formula.specs.declared.formulas.Formula.{True}
use Rattle.cond_formula.specs.Conditions.{value}
use Rattle.cond_formula.specs.ConditionLaws.{condition_of-True}
use Rattle.cond_compatible.specs.SeenTags.{said_at}
use Rattle.cond_compatible.proofs.Rows.{said_pushed, said_all}
use Rattle.cond_compatible.proofs.alike.full_row.Goals as goal

pub loop-preserved : goal.loop-preserved
loop-preserved c = record {
  long = ap length c.in_ok-push.ensures.items ∙ length_push c.loop.conditions.items True ∙ ap (λ k. k + 1) c.loop.invariant.long;
  full = λ on k low. subst (λ xs. said_at on xs k ≡ true) (sym c.in_ok-push.ensures.items)
      (said_pushed on (λ k. true) c.loop.conditions.items True c.loop.counter c.loop.invariant.long (c.loop.invariant.full on) (ap (value on) condition_of-True) k low);
}

below : (k n : ℕ) → k < n → nat_lt k n ≡ true
below k n h = grind (arith, nat_tests)

not_below : (k n : ℕ) → n ≤ k → nat_lt k n ≡ false
not_below k n h = grind (arith, nat_tests)

pub returns : goal.returns
returns c =
    let all : c.loop.counter ≡ c.args.count = omega arith in
    λ on k. said_all on (λ k. nat_lt k c.args.count) c.loop.conditions.items c.args.count (c.loop.invariant.long ∙ all)
    (λ k low. c.loop.invariant.full on k (omega (arith, all, low)) ∙ sym (below k c.args.count low)) (λ k. not_below k c.args.count) k
