use Rattle.std.proofs.Common.{◌+◌, map, drop, arith, sym, ap, ◌∙◌}
use Rattle.core_meaning.specs.Entities.{Scope}
use Rattle.core_meaning.specs.UnitNames.{with_parameters}
use Rattle.plain_scope.specs.PlainScope.{plain_scope}
use Rattle.plain_parameters.specs.PlainParameters.{plain_parameter}
use Rattle.plain_units.specs.Parameters.{parameters_next, parameters_end}
use Rattle.plain_units.proofs.functions.enter_parameters.Goals as goal

pub loop-i-preserved : goal.loop-i-preserved
loop-i-preserved c =
    let ps = c.args.parameters.now in
    let behind : Scope → Scope = λ s. with_parameters s (c.loop-i.i + 1) (map plain_parameter (drop (c.loop-i.i + 1) ps)) in
    record {
      all = c.loop-i.invariant.all;
      placed = ap behind c.in_ok-enter_parameter.ensures.placed ∙ sym (parameters_next (plain_scope c.loop-i.scope) ps c.index-parameters-i.result c.loop-i.i (omega (arith, c.loop-i.invariant.all)) c.index-parameters-i.is) ∙ c.loop-i.invariant.placed;
      outside = c.in_ok-enter_parameter.ensures.outside ∙ c.loop-i.invariant.outside;
    }

pub returns-clause-placed : goal.returns-clause-placed
returns-clause-placed c =
    sym (parameters_end (plain_scope c.loop-i.scope) c.args.parameters.now c.loop-i.i (omega (arith, c.loop-i.invariant.all))) ∙ c.loop-i.invariant.placed

pub returns-clause-outside : goal.returns-clause-outside
returns-clause-outside c = c.loop-i.invariant.outside
