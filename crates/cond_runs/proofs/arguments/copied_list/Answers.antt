use Rattle.std.proofs.Common.{[], ◌∷◌, ◌++◌, ap, ◌∙◌, arith}
use Rattle.c_text.specs.Macros as spec
use Rattle.cond_formula.specs.Conditions.{Condition, condition_of, value}
use Rattle.conditional.specs.Entries.{under}
use Rattle.cond_bodies.specs.CondItems.{item_at, items_at}
use Rattle.cond_bodies.proofs.ItemLemmas.{seen_pushed}
use Rattle.cond_runs.proofs.ArgumentLemmas.{keep_step, keep_end}
use Rattle.cond_runs.proofs.arguments.copied_list.Goals as goal

pub loop-entry-preserved : goal.loop-entry-preserved
loop-entry-preserved c = λ on.
    let x = c.entry-item.result in
    let so_far = items_at on c.loop-entry.copies.items in
    keep_step (item_at on) on c.args.items.now x c.loop-entry.entry-index so_far (items_at on c.push.new.self.items) (items_at on c.args.items.now) c.loop-entry-test.true c.entry-item.is (c.loop-entry.invariant on)
    (seen_pushed (item_at on) on _ _ _ c.in_ok-push.ensures.items
    ∙ ap (λ (d : Condition). so_far ++ under (value on d) (item_at on c.in_ok-try_clone-2.field-0 ∷ [])) c.in_ok-try_clone.ensures
    ∙ ap (λ (i : spec.Item). so_far ++ under (value on (condition_of x.when)) (i ∷ [])) (c.in_ok-try_clone-2.ensures.item on))

pub returns : goal.returns
returns c = λ on.
    keep_end (item_at on) on c.args.items.now c.loop-entry.entry-index (items_at on c.loop-entry.copies.items) (items_at on c.args.items.now) (omega arith) (c.loop-entry.invariant on)
