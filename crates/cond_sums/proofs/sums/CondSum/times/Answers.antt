use Rattle.std.proofs.Common.{◌+◌, ◌*◌, arith, sym, ap, ap₂, ◌∙◌, length, drop}
use Rattle.cond_formula.specs.Conditions.{condition_of, value}
use Rattle.cond_formula.specs.Conditions.{Condition}
use Rattle.core_meaning.specs.Constancy.{capped}
use Rattle.cond_sums.specs.Sums.{counted, sum_at, sum_of}
use Rattle.cond_sums.proofs.Numbers.{product_step}
use Rattle.cond_sums.proofs.Parts.{sum_from}
use Rattle.cond_sums.proofs.sums.CondSum.times.Goals as goal

pub loop-part-preserved : goal.loop-part-preserved
loop-part-preserved c = λ on.
    let parts = c.args.self.now.parts.items in
    let i = c.loop-part.part-index in
    let part = c.part-item.result in
    let same = c.deref-part-items.ensures.value in
    let from = sum_from on parts i part (omega (arith, ap length same)) (rw same at c.part-item.is) in
    product_step c.args.count part.count (sum_of on (drop (i + 1) parts)) (sum_at on c.loop-part.all) (sum_at on c.add.new.self) (capped (c.args.count * sum_at on c.args.self.now)) (value on (condition_of part.when))
    (ap (λ n. capped (sum_at on c.loop-part.all + c.args.count * n)) (sym from) ∙ c.loop-part.invariant on)
    (c.in_ok-add.ensures on ∙ ap (λ n. capped (sum_at on c.loop-part.all + n)) (ap₂ (λ (f : Condition) n. counted (value on f) n) c.in_ok-try_clone.ensures c.product.ensures))
