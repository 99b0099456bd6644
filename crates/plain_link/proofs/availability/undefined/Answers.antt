use Rattle.std.proofs.Common.{◌≡◌, [], map, sym, subst, ◌∙◌, drop, arith}
use Rattle.std.proofs.lemmas.List.{append-nil}
use Rattle.std.proofs.Math.ListN.{drop_of_length-le}
use Rattle.core_meaning.specs.declared.refusals.LinkKind.TheVariants as link
use Rattle.core_meaning.specs.Linking.{IsFault}
use Rattle.plain_link.specs.PlainUnits.{plain_units}
use Rattle.plain_link.specs.Faults.{Finds, undefined_names}
use Rattle.plain_link.proofs.FaultLaws.{finds_undefined}
use Rattle.plain_link.proofs.availability.undefined.Goals as goal

pub returns : goal.returns
returns c =
    let none : drop c.loop-unit.unit-index c.args.units.now ≡ [] = drop_of_length-le c.args.units.now (omega arith) in
    let all : map (λ name. name.now) c.loop-unit.found.items ≡ undefined_names c.args.units.now c.args.units.now =
    sym (append-nil _) ∙ (rw none at c.loop-unit.invariant) in
    subst (λ names. Finds names (IsFault (plain_units 0 c.args.units.now []) link.Undefined)) (sym all) (finds_undefined c.args.units.now)
