use Rattle.std.proofs.Common.{◌||◌, ap, ◌∙◌, refl}
use Rattle.std.specs.List.{list_any}
use Rattle.cond_formula.specs.Features.{has}
use Rattle.cond_formula.specs.Conditions.{condition_of, value}
use Rattle.cond_formula.specs.ConditionLaws.{condition_of-False}
use Rattle.cond_compatible.specs.Depths.{sorts_agree}
use Rattle.cond_compatible.specs.SeenTags.{said_alike}
use Rattle.conditional.specs.declared.entries.Guarded.{Guarded}
use Rattle.link_faults.specs.declared.gathered.Declared.{Declared}
use Rattle.link_faults.specs.Gathered.{are_apart}
use Rattle.link_faults.proofs.Walks.{any_step, any_end}
use Rattle.link_faults.proofs.comparing.where_some_are_apart.Goals as goal

pub loop-a-init : goal.loop-a-init
loop-a-init g c = record { kept = refl; exact = λ n admitted. rw condition_of-False refl }

pub loop-a-preserved : goal.loop-a-preserved
loop-a-preserved g c = record {
  kept = c.in_ok-apart.ensures.kept ∙ c.loop-a.invariant.kept;
  exact = λ n admitted.
      let p = λ (a : Guarded Declared). list_any (are_apart (has n) c.args.tables.now (sorts_agree (said_alike (has n) c.args.alike.now)) a) c.args.all.now in
      any_step p c.args.all.now (list_any p c.args.all.now) c.a-item.result c.loop-a.a-index
      (value (has n) (condition_of c.loop-a.so_far)) (value (has n) (condition_of c.in_ok-so_far.so_far)) c.loop-a-test.true c.a-item.is
      (c.in_ok-so_far.ensures (has n)
      ∙ ap (λ b. value (has n) (condition_of c.loop-a.so_far) || b) (c.in_ok-apart.ensures.exact n (ap (value (has n)) c.loop-a.invariant.kept ∙ admitted)))
      (c.loop-a.invariant.exact n admitted);
}

pub returns-clause-exact : goal.returns-clause-exact
returns-clause-exact g c = λ n admitted.
    let p = λ (a : Guarded Declared). list_any (are_apart (has n) c.args.tables.now (sorts_agree (said_alike (has n) c.args.alike.now)) a) c.args.all.now in
    any_end p c.args.all.now (list_any p c.args.all.now) c.loop-a.a-index (value (has n) (condition_of c.loop-a.so_far)) c.loop-a-test.false (c.loop-a.invariant.exact n admitted)
