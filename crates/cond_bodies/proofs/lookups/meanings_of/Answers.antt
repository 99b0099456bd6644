use Rattle.std.proofs.Common.{◌≡◌, Bool, true, not, ◌&&◌, ap, ◌∙◌}
use Rattle.cond_formula.specs.Features.{has}
use Rattle.cond_formula.specs.Conditions.{Condition, condition_of, value}
use Rattle.cond_formula.specs.ConditionLaws.{condition_of-True}
use Rattle.macro_table.specs.MacroTables.{table_at}
use Rattle.macro_table.specs.Features.{is_on_feature}
use Rattle.cond_bodies.proofs.MeaningLemmas.{found_start}
use Rattle.cond_bodies.proofs.lookups.meanings_of.Goals as goal

pub loop-definition-init : goal.loop-definition-init
loop-definition-init c = record {
  feature = λ n. c.in_ok-feature.ensures n;
  found = λ n.
      let left : value (has n) (condition_of c.in_ok-left.left) ≡ (true && not (is_on_feature (has n) c.args.macros.now c.args.name.now)) =
      c.in_ok-left.ensures (has n)
      ∙ ap (λ (d : Condition). value (has n) d && not (value (has n) (condition_of c.in_ok-feature.feature))) condition_of-True
      ∙ ap (λ (b : Bool). true && not b) (c.in_ok-feature.ensures n) in
      rw (left, c.new.ensures.items, c.new-2.ensures.items, c.definitions-definition-items.ensures)
      (found_start (is_on_feature (has n) c.args.macros.now c.args.name.now) (table_at (has n) c.args.macros.now.table.now c.args.name.now));
}
