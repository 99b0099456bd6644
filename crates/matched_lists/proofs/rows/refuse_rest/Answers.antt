use Rattle.std.proofs.Common.{option_map, subst}
use Rattle.std.proofs.lemmas.List.{drop_all}
use Rattle.conditional.specs.Entries.{listed, seen}
use Rattle.conditional.proofs.ListLaws.{item_of}
use Rattle.matched_lists.specs.Rows.{LeftAlone}
use Rattle.matched_lists.proofs.RowLaws.{rest_begins, rest_step, rest_ends}
use Rattle.matched_lists.proofs.rows.refuse_rest.Goals as goal

pub loop-place-init : goal.loop-place-init
loop-place-init g c = λ on left v alone s. record { alone = alone; leads = rest_begins on v (seen on (listed g.R.Plain.form c.args.refusals.now)) left c.args.row.now s }

pub loop-place-preserved : goal.loop-place-preserved
loop-place-preserved g c = λ on left v alone s.
    let before = c.loop-place.invariant on left v alone s in
    let e = item_of c.args.ys.now c.index-ys-place.result c.loop-place.place c.loop-place-test.true c.index-ys-place.is in
    let alone' = subst (λ ys. LeftAlone on (option_map g.R.Plain.form c.args.why.now) left c.loop-place.place ys) e before.alone in
    record {
      alone = alone'.1;
      leads = rest_step on v (option_map g.R.Plain.form c.args.why.now) (seen on (listed g.R.Plain.form c.loop-place.refusals)) (seen on (listed g.R.Plain.form c.refuse_longer.new.refusals))
          c.loop-place.across c.in_ok-at.at c.in_ok-here.here left c.args.ys.now c.index-ys-place.result c.loop-place.place c.args.row.now
          c.in_ok-at.ensures (c.in_ok-here.ensures on) (c.in_ok-refuse_longer.ensures on) e before.alone before.leads;
    }

pub returns : goal.returns
returns g c = λ on left v alone s.
    let after = c.loop-place.invariant on left v alone s in
    let e = drop_all c.loop-place.place c.args.ys.now c.loop-place-test.false in
    rest_ends on v (seen on (listed g.R.Plain.form c.loop-place.refusals)) c.loop-place.across left c.loop-place.place c.args.row.now
    (subst (λ ys. LeftAlone on (option_map g.R.Plain.form c.args.why.now) left c.loop-place.place ys) e after.alone) after.leads
