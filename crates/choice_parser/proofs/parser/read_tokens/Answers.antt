use Rattle.std.proofs.Common.{arith, drop, sym, ap, refl, ◌∙◌, ◌+◌}
use Rattle.cond_formula.specs.Features.{has}
use Rattle.cond_formula.specs.Conditions.{value}
use Rattle.cond_formula.specs.ConditionLaws.{condition_of-False}
use Rattle.c_tree.specs.declared.kinds.Kind.TheVariants.{Unit}
use Rattle.grammar_moves.specs.declared.places.Place.TheVariants.{InList}
use Rattle.grammar_moves.specs.declared.slots.Category.TheVariants.{FileItem}
use Rattle.choice_states.specs.States.{at_place}
use Rattle.choice_states.specs.StateLaws.{standing-At}
use Rattle.grammar_moves.specs.PlainPlaces.{plain_place}
use Rattle.choice_states.specs.Seen.{seen_in}
use Rattle.choice_parser.proofs.UnitLemmas.{begins_unit, token_of, rest_of, progress_next}
use Rattle.choice_parser.proofs.parser.read_tokens.Goals as goal

pub loop-i-init : goal.loop-i-init
loop-i-init g c = record {
  kept = refl;
  progress = λ c' admitted.
      begins_unit (has c') c.args.tokens.now _ _ (ap (value (has c')) condition_of-False)
      (standing-At (InList Unit FileItem) _ (has c') _ ∙ ap (λ items. at_place (plain_place (InList Unit FileItem)) (seen_in (has c') items)) c.new-items.ensures.items);
}

pub loop-i-preserved : goal.loop-i-preserved
loop-i-preserved g c = record {
  kept = c.in_ok-state.ensures.kept ∙ c.loop-i.invariant.kept;
  progress = λ c' admitted.
      let next = token_of c.args.tokens.now c.index-tokens-i.result c.loop-i.i (omega (arith, c.loop-i-test.true)) c.index-tokens-i.is in
      progress_next (has c') c.args.tokens.now c.loop-i.i c.index-tokens-i.result (drop (c.loop-i.i + 1) c.args.tokens.now) _ _ _ _ next refl
      (c.loop-i.invariant.progress c' admitted)
      (λ nodes so_far. c.in_ok-state.ensures.so_far c' nodes (drop (c.loop-i.i + 1) c.args.tokens.now) (ap (value (has c')) c.loop-i.invariant.kept ∙ admitted) (rest_of c.args.tokens.now c.loop-i.i ∙ next) (sym c.terminal.ensures) so_far);
}
