use Rattle.std.proofs.Common.{refl, ap, ◌∙◌, subst}
use Rattle.cond_formula.specs.Features.{has}
use Rattle.cond_formula.specs.Conditions.{condition_of, value}
use Rattle.declarator_lists.specs.Entries.{declarator_at}
use Rattle.conditional_steps.proofs.FirstAlternative.{next_seen, none_seen}
use Rattle.type_tables.specs.Seen.{seen_tables}
use Rattle.type_tables.proofs.LocalsAlone.{nothing_changed, locals_again}
use Rattle.cond_member_uses.specs.Noted.{noted_at}
use Rattle.cond_member_uses.proofs.Listing.{ListSoFar, list_begins, list_next, list_ends}
use Rattle.cond_member_uses.proofs.declarators.note_each.Goals as goal

pub loop-listed-init : goal.loop-listed-init
loop-listed-init g c = record {
  kept = refl;
  outside = nothing_changed c.args.tables.now;
  so_far = λ law read n list admitted is.
      subst (λ all. ListSoFar law read (has n) c.args.base.now list (value (has n) (condition_of c.args.when.now)) (noted_at (has n) c.args.tables.now c.args.log.now) all (noted_at (has n) c.args.tables.now c.args.log.now))
      (Rattle.std.proofs.Common.sym is)
      (list_begins law read (has n) c.args.base.now list (value (has n) (condition_of c.args.when.now)) (noted_at (has n) c.args.tables.now c.args.log.now));
}

pub loop-listed-preserved : goal.loop-listed-preserved
loop-listed-preserved g c = record {
  kept = c.in_ok-note_listed.ensures.kept ∙ c.loop-listed.invariant.kept;
  outside = locals_again c.args.tables.now c.loop-listed.tables c.note_listed.new.tables c.loop-listed.invariant.outside c.in_ok-note_listed.ensures.outside;
  so_far = λ law read n list admitted is.
      list_next law read (has n) c.args.base.now list (value (has n) (condition_of c.args.when.now)) (noted_at (has n) c.args.tables.now c.args.log.now)
      (declarator_at (has n) c.listed-item.result).what (value (has n) (condition_of c.listed-item.result.when)) _ _
      (noted_at (has n) c.loop-listed.tables c.loop-listed.log) (noted_at (has n) c.note_listed.new.tables c.note_listed.new.log)
      (next_seen (has n) (declarator_at (has n)) c.args.all.now c.loop-listed.listed-index c.listed-item.result c.loop-listed-test.true c.listed-item.is)
      (ap (λ t. (seen_tables (has n) t).names) c.in_ok-note_listed.ensures.outside.same)
      (c.in_ok-note_listed.ensures.notes n (ap (value (has n)) c.loop-listed.invariant.kept ∙ admitted))
      (c.loop-listed.invariant.so_far law read n list admitted is);
}

pub returns-clause-notes : goal.returns-clause-notes
returns-clause-notes g c = λ n list admitted is.
    let law = c.locals_use_initialisers.ensures in
    let read = c.locals_are_read.ensures in
    list_ends law read (has n) c.args.base.now list (value (has n) (condition_of c.args.when.now)) (noted_at (has n) c.args.tables.now c.args.log.now) (noted_at (has n) c.loop-listed.tables c.loop-listed.log)
    (subst (λ rest. ListSoFar law read (has n) c.args.base.now list (value (has n) (condition_of c.args.when.now)) (noted_at (has n) c.args.tables.now c.args.log.now) rest (noted_at (has n) c.loop-listed.tables c.loop-listed.log))
    (none_seen (has n) (declarator_at (has n)) c.args.all.now c.loop-listed.listed-index c.loop-listed-test.false)
    (c.loop-listed.invariant.so_far law read n list admitted is))
