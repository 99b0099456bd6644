use Rattle.std.proofs.Common.{Bool, false, ◌&&◌, refl, sym, ap, ◌∙◌, subst}
use Rattle.cond_formula.specs.Features.{has}
use Rattle.cond_formula.specs.Conditions.{condition_of, value}
use Rattle.conditional.specs.Entries.{seen}
use Rattle.choice_expansions.specs.Steps.{after_each}
use Rattle.c_tree.specs.Grammar.{file_first}
use Rattle.declarator_lists.specs.Entries.{declarator_at, listed_at}
use Rattle.declaration_readings.specs.Readings.{goes_on, goes_through, next_name}
use Rattle.declaration_readings.proofs.Judged.{names_read}
use Rattle.plain_objects.specs.PlainStates.{plain_storage}
use Rattle.conditional_steps.proofs.Alternatives.{nothing_done}
use Rattle.conditional_steps.proofs.FirstAlternative.{next_seen, none_seen}
use Rattle.cond_units.specs.Seen.{seen_unit}
use Rattle.cond_units.specs.Declaring.{Declares}
use Rattle.cond_units.specs.Where.{Where}
use Rattle.cond_units.proofs.Staying.{staying}
use Rattle.cond_units.specs.Names.{IsReady, one_name}
use Rattle.cond_units.proofs.Walking.{WalksTo, AreReady, are_ready, walk_begins, walk_goes_on, walk_ends}
use Rattle.cond_units.proofs.names.name_each.Goals as goal

pub loop-listed-init : goal.loop-listed-init
loop-listed-init g c = record {
  kept = refl;
  elsewhere = λ n admitted off. (staying.same (seen_unit (has n) c.args.unit.now), c.in_ok-refused.ensures (has n));
  so_far = λ n globals role list admitted is on by unit ty u there shown derived.
      subst (λ all. WalksTo by unit.scope.structs (has n) c.args.declaration.now.base.now globals (plain_storage c.args.declaration.now.storage) (g.B.Behind.rest c.args.declaration.now.behind.now n) role ty there shown
      (after_each (goes_on (next_name globals (plain_storage c.args.declaration.now.storage) ty (g.B.Behind.rest c.args.declaration.now.behind.now n))) (record { state = unit; refused = false }) all)
      (seen (has n) (listed_at (has n) c.args.all.now)) (seen_unit (has n) c.args.unit.now) (value (has n) (condition_of c.in_ok-refused.refused))) is
      (walk_begins by unit.scope.structs (has n) c.args.declaration.now.base.now globals (plain_storage c.args.declaration.now.storage) (g.B.Behind.rest c.args.declaration.now.behind.now n) role ty there shown
      (seen_unit (has n) c.args.unit.now) unit (value (has n) (condition_of c.in_ok-refused.refused)) (seen (has n) (listed_at (has n) c.args.all.now)) u refl (c.in_ok-refused.ensures (has n))
      (subst (AreReady role) (sym is) (are_ready derived)));
}

pub loop-listed-preserved : goal.loop-listed-preserved
loop-listed-preserved g c = record {
  kept = c.in_ok-found.ensures.kept ∙ c.loop-listed.invariant.kept;
  elsewhere = λ n admitted off.
      nothing_done staying (Declares (has n) c.args.declaration.now.base.now
      (one_name 0 (plain_storage c.args.declaration.now.storage) (g.B.Behind.rest c.args.declaration.now.behind.now n) (declarator_at (has n) c.listed-item.result).what)
      (IsReady file_first (declarator_at (has n) c.listed-item.result).what))
      (value (has n) (condition_of c.args.when.now) && value (has n) (condition_of c.listed-item.result.when)) (seen_unit (has n) c.args.unit.now) (seen_unit (has n) c.loop-listed.unit)
      (seen_unit (has n) c.name_listed.new.unit)
      (value (has n) (condition_of c.loop-listed.refused)) (value (has n) (condition_of c.in_ok-found.found)) (value (has n) (condition_of c.in_ok-refused-2.refused))
      (ap (λ (b : Bool). b && value (has n) (condition_of c.listed-item.result.when)) off) (c.in_ok-refused-2.ensures (has n))
      (c.in_ok-found.ensures.declares n 0 file_first (ap (value (has n)) c.loop-listed.invariant.kept ∙ admitted)) (c.loop-listed.invariant.elsewhere n admitted off);
  so_far = λ n globals role list admitted is on by unit ty u there shown derived.
      walk_goes_on by unit.scope.structs (has n) c.args.declaration.now.base.now globals (plain_storage c.args.declaration.now.storage) (g.B.Behind.rest c.args.declaration.now.behind.now n) role ty there shown
      (goes_through (next_name globals (plain_storage c.args.declaration.now.storage) ty (g.B.Behind.rest c.args.declaration.now.behind.now n)) (record { state = unit; refused = false }) list)
      (declarator_at (has n) c.listed-item.result).what (value (has n) (condition_of c.listed-item.result.when)) _ _ (seen_unit (has n) c.loop-listed.unit) (seen_unit (has n) c.name_listed.new.unit)
      (value (has n) (condition_of c.loop-listed.refused)) (value (has n) (condition_of c.in_ok-found.found)) (value (has n) (condition_of c.in_ok-refused-2.refused))
      (next_seen (has n) (declarator_at (has n)) c.args.all.now c.loop-listed.listed-index c.listed-item.result c.loop-listed-test.true c.listed-item.is) (c.in_ok-refused-2.ensures (has n))
      (subst (λ (b : Bool). Where (b && value (has n) (condition_of c.listed-item.result.when)) (Declares (has n) c.args.declaration.now.base.now
      (one_name globals (plain_storage c.args.declaration.now.storage) (g.B.Behind.rest c.args.declaration.now.behind.now n) (declarator_at (has n) c.listed-item.result).what)
      (IsReady role (declarator_at (has n) c.listed-item.result).what))
      (seen_unit (has n) c.loop-listed.unit) (seen_unit (has n) c.name_listed.new.unit) (value (has n) (condition_of c.in_ok-found.found))) on
      (c.in_ok-found.ensures.declares n globals role (ap (value (has n)) c.loop-listed.invariant.kept ∙ admitted)))
      (c.loop-listed.invariant.so_far n globals role list admitted is on by unit ty u there shown derived);
}

pub returns-clause-declares : goal.returns-clause-declares
returns-clause-declares g c = λ n globals role list admitted is. record {
  elsewhere = λ off. c.loop-listed.invariant.elsewhere n admitted off;
  does = λ on. record {
    goes_on = λ by unit ty u there shown derived.
        walk_ends by unit.scope.structs (has n) c.args.declaration.now.base.now globals (plain_storage c.args.declaration.now.storage) (g.B.Behind.rest c.args.declaration.now.behind.now n) role ty there shown
        names_read unit list (seen_unit (has n) c.loop-listed.unit) (value (has n) (condition_of c.loop-listed.refused)) derived
        (subst (λ others. WalksTo by unit.scope.structs (has n) c.args.declaration.now.base.now globals (plain_storage c.args.declaration.now.storage) (g.B.Behind.rest c.args.declaration.now.behind.now n) role ty there shown
        (goes_through (next_name globals (plain_storage c.args.declaration.now.storage) ty (g.B.Behind.rest c.args.declaration.now.behind.now n)) (record { state = unit; refused = false }) list) others
        (seen_unit (has n) c.loop-listed.unit) (value (has n) (condition_of c.loop-listed.refused)))
        (none_seen (has n) (declarator_at (has n)) c.args.all.now c.loop-listed.listed-index c.loop-listed-test.false)
        (c.loop-listed.invariant.so_far n globals role list admitted is on by unit ty u there shown derived));
  };
}
