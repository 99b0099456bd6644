use Rattle.std.proofs.Common.{Bool, false, ◌&&◌, refl, sym, ap, ◌∙◌, subst}
use Rattle.std.specs.Prelude.{option_map}
use Rattle.cond_formula.specs.Features.{has}
use Rattle.cond_formula.specs.Conditions.{condition_of, value}
use Rattle.conditional.specs.Entries.{seen}
use Rattle.choice_trees.specs.ChoiceTrees.{plain_item, item_at}
use Rattle.choice_expansions.specs.Steps.{after_each}
use Rattle.core_meaning.specs.Declarations.{one_local}
use Rattle.declarator_lists.specs.Entries.{declarator_at, listed_at}
use Rattle.declaration_readings.specs.Readings.{goes_on, goes_through, next_local}
use Rattle.declaration_readings.proofs.Judged.{locals_read}
use Rattle.type_tables.specs.Seen.{seen_tables}
use Rattle.type_tables.proofs.LocalsAlone.{nothing_changed, locals_again}
use Rattle.conditional_steps.specs.Here.{Here}
use Rattle.cond_locals.specs.Declaring.{IsInitialiser, Declares}
use Rattle.conditional_steps.proofs.Alternatives.{unchanged, nothing_done}
use Rattle.cond_locals.proofs.Walking.{WalksTo, AreInitialisers, are_initialisers, walk_begins, walk_goes_on, walk_ends}
use Rattle.conditional_steps.proofs.FirstAlternative.{next_seen, none_seen}
use Rattle.cond_locals.proofs.lists.declare_each.Goals as goal

pub loop-listed-init : goal.loop-listed-init
loop-listed-init g c = record {
  kept = refl;
  outside = nothing_changed c.args.tables.now;
  elsewhere = λ n admitted off. (refl, c.in_ok-refused.ensures (has n));
  so_far = λ n list admitted is on scope slots ty follows there shown derived.
      subst (λ all. WalksTo follows.follows.by scope.structs (has n) c.args.base.now ty there shown
      (after_each (goes_on (next_local ty)) (record { state = record { scope = scope; slots = slots }; refused = false }) all)
      (seen (has n) (listed_at (has n) c.args.all.now)) (seen_tables (has n) c.args.tables.now) (value (has n) (condition_of c.in_ok-refused.refused))) is
      (walk_begins follows.follows.by scope.structs (has n) c.args.base.now ty there shown (seen_tables (has n) c.args.tables.now) (record { scope = scope; slots = slots })
      (value (has n) (condition_of c.in_ok-refused.refused)) (seen (has n) (listed_at (has n) c.args.all.now)) (record { follows = follows; numbers = refl }) refl (c.in_ok-refused.ensures (has n))
      (subst AreInitialisers (sym is) (are_initialisers derived)));
}

pub loop-listed-preserved : goal.loop-listed-preserved
loop-listed-preserved g c = record {
  kept = c.in_ok-found.ensures.kept ∙ c.loop-listed.invariant.kept;
  outside = locals_again c.args.tables.now c.loop-listed.tables c.declare_listed.new.tables c.loop-listed.invariant.outside c.in_ok-found.ensures.outside;
  elsewhere = λ n admitted off.
      nothing_done unchanged (Declares (has n) c.args.base.now
      (λ scope slots ty. one_local scope slots ty (item_at (has n) (plain_item c.listed-item.result.declarator.now)) (option_map (λ item. item_at (has n) (plain_item item.now)) c.listed-item.result.initialiser))
      (λ scope. IsInitialiser (option_map (λ item. item_at (has n) (plain_item item.now)) c.listed-item.result.initialiser)))
      (value (has n) (condition_of c.args.when.now) && value (has n) (condition_of c.listed-item.result.when)) (seen_tables (has n) c.args.tables.now) (seen_tables (has n) c.loop-listed.tables)
      (seen_tables (has n) c.declare_listed.new.tables)
      (value (has n) (condition_of c.loop-listed.refused)) (value (has n) (condition_of c.in_ok-found.found)) (value (has n) (condition_of c.in_ok-refused-2.refused))
      (ap (λ (b : Bool). b && value (has n) (condition_of c.listed-item.result.when)) off) (c.in_ok-refused-2.ensures (has n))
      (c.in_ok-found.ensures.declares n (ap (value (has n)) c.loop-listed.invariant.kept ∙ admitted)) (c.loop-listed.invariant.elsewhere n admitted off);
  so_far = λ n list admitted is on scope slots ty follows there shown derived.
      walk_goes_on follows.follows.by scope.structs (has n) c.args.base.now ty there shown
      (goes_through (next_local ty) (record { state = record { scope = scope; slots = slots }; refused = false }) list)
      (declarator_at (has n) c.listed-item.result).what (value (has n) (condition_of c.listed-item.result.when)) _ _ (seen_tables (has n) c.loop-listed.tables) (seen_tables (has n) c.declare_listed.new.tables)
      (value (has n) (condition_of c.loop-listed.refused)) (value (has n) (condition_of c.in_ok-found.found)) (value (has n) (condition_of c.in_ok-refused-2.refused))
      (next_seen (has n) (declarator_at (has n)) c.args.all.now c.loop-listed.listed-index c.listed-item.result c.loop-listed-test.true c.listed-item.is) (c.in_ok-refused-2.ensures (has n))
      (subst (λ (b : Bool). Here (b && value (has n) (condition_of c.listed-item.result.when)) (Declares (has n) c.args.base.now
      (λ scope slots ty. one_local scope slots ty (item_at (has n) (plain_item c.listed-item.result.declarator.now)) (option_map (λ item. item_at (has n) (plain_item item.now)) c.listed-item.result.initialiser))
      (λ scope. IsInitialiser (option_map (λ item. item_at (has n) (plain_item item.now)) c.listed-item.result.initialiser)))
      (seen_tables (has n) c.loop-listed.tables) (seen_tables (has n) c.declare_listed.new.tables) (value (has n) (condition_of c.in_ok-found.found))) on
      (c.in_ok-found.ensures.declares n (ap (value (has n)) c.loop-listed.invariant.kept ∙ admitted)))
      (c.loop-listed.invariant.so_far n list admitted is on scope slots ty follows there shown derived);
}

pub returns-clause-declares : goal.returns-clause-declares
returns-clause-declares g c = λ n list admitted is. record {
  elsewhere = λ off. c.loop-listed.invariant.elsewhere n admitted off;
  does = λ on. record {
    goes_on = λ scope slots ty follows there shown derived.
        walk_ends follows.follows.by scope.structs (has n) c.args.base.now ty there shown locals_read scope slots list (seen_tables (has n) c.loop-listed.tables) (value (has n) (condition_of c.loop-listed.refused)) derived
        (subst (λ rest. WalksTo follows.follows.by scope.structs (has n) c.args.base.now ty there shown
        (goes_through (next_local ty) (record { state = record { scope = scope; slots = slots }; refused = false }) list) rest
        (seen_tables (has n) c.loop-listed.tables) (value (has n) (condition_of c.loop-listed.refused)))
        (none_seen (has n) (declarator_at (has n)) c.args.all.now c.loop-listed.listed-index c.loop-listed-test.false)
        (c.loop-listed.invariant.so_far n list admitted is on scope slots ty follows there shown derived));
  };
}
