use Rattle.std.proofs.Common.{◌+◌, Bool, not, ◌&&◌, map, drop, refl, ap, ◌∙◌, subst}
use Rattle.std.specs.Prelude.{Some}
use Rattle.cond_formula.specs.Features.{has}
use Rattle.cond_formula.specs.Conditions.{Condition, condition_of, value}
use Rattle.conditional.specs.Entries.{entry_of, entries_of, seen, under}
use Rattle.conditional_steps.proofs.Alternatives.{nothing_done, SoFar, ahead, next_done, all_done}
use Rattle.conditional_steps.proofs.FirstAlternative.{only_first, only_one, one_turn, none_left, next_seen, none_seen}
use Rattle.c_text.specs.Token.{plain_token}
use Rattle.c_types.specs.Types.{plain_type}
use Rattle.choice_trees.specs.ChoiceTrees.{plain_item, item_at}
use Rattle.type_tables.specs.Forms.{declared_type_form}
use Rattle.cond_parameters.specs.Parameters.{IsList}
use Rattle.cond_units.specs.Seen.{seen_unit}
use Rattle.cond_units.specs.Declaring.{DeclaresTyped}
use Rattle.cond_units.specs.Where.{Stays}
use Rattle.cond_units.proofs.Staying.{staying, typed_stable}
use Rattle.cond_units.proofs.function_types.read_by_types.Goals as goal

pub loop-alternative-init : goal.loop-alternative-init
loop-alternative-init g c = record {
  kept = refl;
  elsewhere = λ n admitted off. (ap (value (has n)) c.in_ok-left.ensures ∙ off, staying.same (seen_unit (has n) c.args.unit.now), c.in_ok-refused.ensures (has n));
  so_far = λ n ty admitted on stands.
      ahead (ap (λ (when : Condition). under (value (has n) when) (only_first (seen (has n) (entries_of declared_type_form c.args.types.now)))) c.in_ok-left.ensures
      ∙ (ap (λ (b : Bool). under b (only_first (seen (has n) (entries_of declared_type_form c.args.types.now)))) on ∙ only_one (has n) ty (entries_of declared_type_form c.args.types.now) stands))
      (staying.same (seen_unit (has n) c.args.unit.now)) (c.in_ok-refused.ensures (has n));
}

pub loop-alternative-preserved : goal.loop-alternative-preserved
loop-alternative-preserved g c = record {
  kept = c.in_ok-found.ensures.kept ∙ c.loop-alternative.invariant.kept;
  elsewhere = λ n admitted off.
      let before = c.loop-alternative.invariant.elsewhere n admitted off in
      let after = nothing_done staying (DeclaresTyped (plain_type c.alternative-item.result.what.ty) (g.R.HeadReader.judged c.args.reader.now n c.args.head.now.stars (plain_token c.args.head.now.name.now) (Some (item_at (has n) (plain_item c.args.head.now.list.now)))) (IsList (item_at (has n) (plain_item c.args.head.now.list.now)) × g.R.HeadReader.ready c.args.reader.now n))
      (value (has n) (condition_of c.in_ok-here.here)) (seen_unit (has n) c.args.unit.now) (seen_unit (has n) c.loop-alternative.unit) (seen_unit (has n) c.read_typed.new.unit)
      (value (has n) (condition_of c.loop-alternative.refused)) (value (has n) (condition_of c.in_ok-found.found)) (value (has n) (condition_of c.in_ok-refused-2.refused))
      (c.in_ok-here.ensures (has n) ∙ ap (λ (b : Bool). b && value (has n) (condition_of c.alternative-item.result.when)) before.0) (c.in_ok-refused-2.ensures (has n))
      (c.in_ok-found.ensures.declares n (ap (value (has n)) c.loop-alternative.invariant.kept ∙ admitted)) (before.1, before.2) in
      (c.in_ok-left-2.ensures (has n) ∙ ap (λ (b : Bool). b && not (value (has n) (condition_of c.alternative-item.result.when))) before.0, after.0, after.1);
  so_far = λ n ty admitted on stands.
      next_done staying (typed_stable (g.R.HeadReader.judged c.args.reader.now n c.args.head.now.stars (plain_token c.args.head.now.name.now) (Some (item_at (has n) (plain_item c.args.head.now.list.now)))) (IsList (item_at (has n) (plain_item c.args.head.now.list.now)) × g.R.HeadReader.ready c.args.reader.now n)) ty (seen_unit (has n) c.args.unit.now)
      (plain_type c.alternative-item.result.what.ty) (value (has n) (condition_of c.in_ok-here.here)) _ _ (seen_unit (has n) c.loop-alternative.unit) (seen_unit (has n) c.read_typed.new.unit)
      (value (has n) (condition_of c.loop-alternative.refused)) (value (has n) (condition_of c.in_ok-found.found)) (value (has n) (condition_of c.in_ok-refused-2.refused))
      (ap (λ list. under (value (has n) (condition_of c.loop-alternative.left)) (only_first list))
      (next_seen (has n) (entry_of declared_type_form) c.args.types.now c.loop-alternative.alternative-index c.alternative-item.result c.loop-alternative-test.true c.alternative-item.is)
      ∙ one_turn (value (has n) (condition_of c.loop-alternative.left)) (value (has n) (condition_of c.alternative-item.result.when)) (value (has n) (condition_of c.in_ok-here.here)) (value (has n) (condition_of c.in_ok-left-2.left))
      (plain_type c.alternative-item.result.what.ty) (seen (has n) (map (entry_of declared_type_form) (drop (c.loop-alternative.alternative-index + 1) c.args.types.now))) (c.in_ok-here.ensures (has n)) (c.in_ok-left-2.ensures (has n)))
      (c.in_ok-refused-2.ensures (has n)) (c.in_ok-found.ensures.declares n (ap (value (has n)) c.loop-alternative.invariant.kept ∙ admitted)) (c.loop-alternative.invariant.so_far n ty admitted on stands);
}

pub returns-clause-elsewhere : goal.returns-clause-elsewhere
returns-clause-elsewhere g c = λ n admitted off. let before = c.loop-alternative.invariant.elsewhere n admitted off in (before.1, before.2)

pub returns-clause-declares : goal.returns-clause-declares
returns-clause-declares g c = λ n admitted on ty stands.
    all_done staying (typed_stable (g.R.HeadReader.judged c.args.reader.now n c.args.head.now.stars (plain_token c.args.head.now.name.now) (Some (item_at (has n) (plain_item c.args.head.now.list.now)))) (IsList (item_at (has n) (plain_item c.args.head.now.list.now)) × g.R.HeadReader.ready c.args.reader.now n)) ty (seen_unit (has n) c.args.unit.now)
    (seen_unit (has n) c.loop-alternative.unit) (value (has n) (condition_of c.loop-alternative.refused))
    (subst (λ list. SoFar Stays (λ ty. DeclaresTyped ty (g.R.HeadReader.judged c.args.reader.now n c.args.head.now.stars (plain_token c.args.head.now.name.now) (Some (item_at (has n) (plain_item c.args.head.now.list.now)))) (IsList (item_at (has n) (plain_item c.args.head.now.list.now)) × g.R.HeadReader.ready c.args.reader.now n)) ty (seen_unit (has n) c.args.unit.now) list
    (seen_unit (has n) c.loop-alternative.unit) (value (has n) (condition_of c.loop-alternative.refused)))
    (ap (λ list. under (value (has n) (condition_of c.loop-alternative.left)) (only_first list)) (none_seen (has n) (entry_of declared_type_form) c.args.types.now c.loop-alternative.alternative-index c.loop-alternative-test.false)
    ∙ none_left (value (has n) (condition_of c.loop-alternative.left)))
    (c.loop-alternative.invariant.so_far n ty admitted on stands))
