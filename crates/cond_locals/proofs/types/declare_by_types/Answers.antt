use Rattle.std.proofs.Common.{◌+◌, Bool, not, ◌&&◌, map, drop, refl, ap, ◌∙◌, subst}
use Rattle.std.specs.Prelude.{option_map}
use Rattle.cond_formula.specs.Features.{has}
use Rattle.cond_formula.specs.Conditions.{Condition, condition_of, value}
use Rattle.conditional.specs.Entries.{entry_of, entries_of, seen, under}
use Rattle.c_text.specs.Token.{plain_token}
use Rattle.c_types.specs.Types.{plain_type}
use Rattle.choice_trees.specs.ChoiceTrees.{plain_item, item_at}
use Rattle.type_tables.specs.Forms.{declared_type_form}
use Rattle.type_tables.specs.Seen.{seen_tables}
use Rattle.type_tables.proofs.LocalsAlone.{nothing_changed, locals_again}
use Rattle.cond_locals.specs.Declaring.{IsDeclared}
use Rattle.conditional_steps.specs.Here.{Unchanged}
use Rattle.conditional_steps.proofs.Alternatives.{unchanged, unchanged_beside, SoFar, ahead, nothing_done, next_done, all_done}
use Rattle.conditional_steps.proofs.FirstAlternative.{only_first, only_one, one_turn, none_left}
use Rattle.conditional_steps.proofs.FirstAlternative.{next_seen, none_seen}
use Rattle.cond_locals.proofs.types.declare_by_types.Goals as goal

pub loop-alternative-init : goal.loop-alternative-init
loop-alternative-init g c = record {
  kept = refl;
  outside = nothing_changed c.args.tables.now;
  elsewhere = λ n admitted off. (ap (value (has n)) c.in_ok-left.ensures ∙ off, refl, c.in_ok-refused.ensures (has n));
  so_far = λ n ty admitted on stands.
      ahead (ap (λ (when : Condition). under (value (has n) when) (only_first (seen (has n) (entries_of declared_type_form c.args.types.now)))) c.in_ok-left.ensures
      ∙ (ap (λ (b : Bool). under b (only_first (seen (has n) (entries_of declared_type_form c.args.types.now)))) on ∙ only_one (has n) ty (entries_of declared_type_form c.args.types.now) stands))
      refl (c.in_ok-refused.ensures (has n));
}

pub loop-alternative-preserved : goal.loop-alternative-preserved
loop-alternative-preserved g c = record {
  kept = c.in_ok-found.ensures.kept ∙ c.loop-alternative.invariant.kept;
  outside = locals_again c.args.tables.now c.loop-alternative.tables c.declare_object.new.tables c.loop-alternative.invariant.outside c.in_ok-found.ensures.outside;
  elsewhere = λ n admitted off.
      let before = c.loop-alternative.invariant.elsewhere n admitted off in
      let after = nothing_done unchanged (IsDeclared (plain_type c.alternative-item.result.what.ty) (plain_token c.args.name.now) (option_map (λ item. item_at (has n) (plain_item item.now)) c.args.initialiser))
      (value (has n) (condition_of c.in_ok-here.here)) (seen_tables (has n) c.args.tables.now) (seen_tables (has n) c.loop-alternative.tables) (seen_tables (has n) c.declare_object.new.tables)
      (value (has n) (condition_of c.loop-alternative.refused)) (value (has n) (condition_of c.in_ok-found.found)) (value (has n) (condition_of c.in_ok-refused-2.refused))
      (c.in_ok-here.ensures (has n) ∙ ap (λ (b : Bool). b && value (has n) (condition_of c.alternative-item.result.when)) before.0) (c.in_ok-refused-2.ensures (has n))
      (c.in_ok-found.ensures.declares n (ap (value (has n)) c.loop-alternative.invariant.kept ∙ admitted)) (before.1, before.2) in
      (c.in_ok-left-2.ensures (has n) ∙ ap (λ (b : Bool). b && not (value (has n) (condition_of c.alternative-item.result.when))) before.0, after.0, after.1);
  so_far = λ n ty admitted on stands.
      next_done unchanged (unchanged_beside (λ ty. IsDeclared ty (plain_token c.args.name.now) (option_map (λ item. item_at (has n) (plain_item item.now)) c.args.initialiser))) ty (seen_tables (has n) c.args.tables.now)
      (plain_type c.alternative-item.result.what.ty) (value (has n) (condition_of c.in_ok-here.here)) _ _ (seen_tables (has n) c.loop-alternative.tables) (seen_tables (has n) c.declare_object.new.tables)
      (value (has n) (condition_of c.loop-alternative.refused)) (value (has n) (condition_of c.in_ok-found.found)) (value (has n) (condition_of c.in_ok-refused-2.refused))
      (ap (λ list. under (value (has n) (condition_of c.loop-alternative.left)) (only_first list))
      (next_seen (has n) (entry_of declared_type_form) c.args.types.now c.loop-alternative.alternative-index c.alternative-item.result c.loop-alternative-test.true c.alternative-item.is)
      ∙ one_turn (value (has n) (condition_of c.loop-alternative.left)) (value (has n) (condition_of c.alternative-item.result.when)) (value (has n) (condition_of c.in_ok-here.here)) (value (has n) (condition_of c.in_ok-left-2.left))
      (plain_type c.alternative-item.result.what.ty) (seen (has n) (map (entry_of declared_type_form) (drop (c.loop-alternative.alternative-index + 1) c.args.types.now))) (c.in_ok-here.ensures (has n)) (c.in_ok-left-2.ensures (has n)))
      (c.in_ok-refused-2.ensures (has n)) (c.in_ok-found.ensures.declares n (ap (value (has n)) c.loop-alternative.invariant.kept ∙ admitted)) (c.loop-alternative.invariant.so_far n ty admitted on stands);
}

pub returns-clause-elsewhere : goal.returns-clause-elsewhere
returns-clause-elsewhere g c = λ n admitted off. let before = c.loop-alternative.invariant.elsewhere n admitted off in (before.1, before.2)

pub returns-clause-declares : goal.returns-clause-declares
returns-clause-declares g c = λ n admitted on ty stands.
    all_done unchanged (unchanged_beside (λ ty. IsDeclared ty (plain_token c.args.name.now) (option_map (λ item. item_at (has n) (plain_item item.now)) c.args.initialiser))) ty (seen_tables (has n) c.args.tables.now)
    (seen_tables (has n) c.loop-alternative.tables) (value (has n) (condition_of c.loop-alternative.refused))
    (subst (λ list. SoFar Unchanged (λ ty. IsDeclared ty (plain_token c.args.name.now) (option_map (λ item. item_at (has n) (plain_item item.now)) c.args.initialiser)) ty (seen_tables (has n) c.args.tables.now) list
    (seen_tables (has n) c.loop-alternative.tables) (value (has n) (condition_of c.loop-alternative.refused)))
    (ap (λ list. under (value (has n) (condition_of c.loop-alternative.left)) (only_first list)) (none_seen (has n) (entry_of declared_type_form) c.args.types.now c.loop-alternative.alternative-index c.loop-alternative-test.false)
    ∙ none_left (value (has n) (condition_of c.loop-alternative.left)))
    (c.loop-alternative.invariant.so_far n ty admitted on stands))
