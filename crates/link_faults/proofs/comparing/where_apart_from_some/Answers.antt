use Rattle.std.proofs.Common.{◌||◌, ap, ◌∙◌, refl}
use Rattle.std.specs.List.{list_any}
use Rattle.cond_formula.specs.Features.{has}
use Rattle.cond_formula.specs.Conditions.{condition_of, value}
use Rattle.cond_formula.specs.ConditionLaws.{condition_of-False}
use Rattle.cond_compatible.specs.Depths.{sorts_agree}
use Rattle.cond_compatible.specs.SeenTags.{said_alike}
use Rattle.link_faults.specs.Gathered.{are_apart}
use Rattle.link_faults.proofs.Walks.{any_step, any_end}
use Rattle.link_faults.proofs.comparing.where_apart_from_some.Goals as goal

pub loop-b-init : goal.loop-b-init
loop-b-init g c = record { kept = refl; exact = λ n admitted. rw condition_of-False refl }

pub loop-b-preserved : goal.loop-b-preserved
loop-b-preserved g c = record {
  kept = c.in_ok-apart.ensures.kept ∙ c.loop-b.invariant.kept;
  exact = λ n admitted.
      let p = are_apart (has n) c.args.tables.now (sorts_agree (said_alike (has n) c.args.alike.now)) c.args.a.now in
      any_step p c.args.others.now (list_any p c.args.others.now) c.b-item.result c.loop-b.b-index
      (value (has n) (condition_of c.loop-b.so_far)) (value (has n) (condition_of c.in_ok-so_far.so_far)) c.loop-b-test.true c.b-item.is
      (c.in_ok-so_far.ensures (has n)
      ∙ ap (λ b. value (has n) (condition_of c.loop-b.so_far) || b) (c.in_ok-apart.ensures.exact n (ap (value (has n)) c.loop-b.invariant.kept ∙ admitted)))
      (c.loop-b.invariant.exact n admitted);
}

pub returns-clause-exact : goal.returns-clause-exact
returns-clause-exact g c = λ n admitted.
    let p = are_apart (has n) c.args.tables.now (sorts_agree (said_alike (has n) c.args.alike.now)) c.args.a.now in
    any_end p c.args.others.now (list_any p c.args.others.now) c.loop-b.b-index (value (has n) (condition_of c.loop-b.so_far)) c.loop-b-test.false (c.loop-b.invariant.exact n admitted)
