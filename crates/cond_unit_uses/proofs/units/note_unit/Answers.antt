use Rattle.std.proofs.Common.{List, subst}
use Rattle.cond_formula.specs.Features.{has}
use Rattle.cond_formula.specs.Conditions.{condition_of, value}
use Rattle.c_tree.specs.declared.kinds.Kind.TheVariants as k
use Rattle.choice_trees.specs.ChoiceTrees.{plain_choices, parts_at}
use Rattle.member_uses.specs.Uses.{Use}
use Rattle.cond_units.specs.Seen.{seen_unit}
use Rattle.cond_unit_uses.specs.Noted.{noted_unit, Where, NotesItems}
use Rattle.cond_unit_uses.proofs.units.note_unit.Goals as goal

pub returns-clause-takes : goal.returns-clause-takes
returns-clause-takes g c = λ n admitted. record {
  at_end = seen_unit (has n) c.note_items.new.unit;
  notes = λ globals.
      subst (λ (uses : List Use). Where (value (has n) (condition_of c.args.when.now)) (NotesItems globals (parts_at (has n) k.Unit 0 (plain_choices c.args.items.now))) (record { unit = seen_unit (has n) c.args.unit.now; uses = uses })
      (noted_unit (has n) c.note_items.new.unit c.note_items.new.log)) (c.empty-log.ensures (has n)) (c.in_ok-note_items.ensures.notes n globals admitted);
  next_is = c.begin.ensures (has n);
}
