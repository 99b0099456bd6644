use Rattle.std.proofs.Common.{List, [], map, ℕ, Bor}
use Rattle.core_meaning.specs.declared.refusals.LinkKind.TheVariants as link
use Rattle.core_meaning.specs.Linking.{IsFault}
use Rattle.plain_link.specs.PlainUnits.{plain_units}
use Rattle.plain_link.specs.Faults.{IsLeastFault}
use Rattle.plain_link.proofs.FaultLaws.{passed_on, least_found, none_found}
use Rattle.plain_link.proofs.linking.refuse_incompatible.Goals as goal

pub returns-in_err-refuse_least : goal.returns-in_err-refuse_least
returns-in_err-refuse_least c =
    let linked = plain_units 0 c.args.units.now c.args.structs.now in
    passed_on c.from_residual-in_err-refuse_least.result c.in_err-refuse_least.field-0.0
    (λ done. (name : List ℕ) → IsFault linked link.Incompatible name → ⊥) (IsLeastFault linked link.Incompatible)
    c.from_residual-in_err-refuse_least.ensures.1
    (least_found linked link.Incompatible (map (λ (name : Bor (List ℕ)). name.now) c.in_ok-names.names.items) c.in_ok-names.ensures c.in_err-refuse_least.field-0.0
    (rw c.as_slice.ensures.value at c.in_err-refuse_least.ensures))

pub returns : goal.returns
returns c =
    none_found (map (λ (name : Bor (List ℕ)). name.now) c.in_ok-names.names.items) c.in_ok-names.ensures
    (rw c.as_slice.ensures.value at c.in_ok-refuse_least.ensures)
