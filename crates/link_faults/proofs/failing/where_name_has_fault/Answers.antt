use Rattle.std.proofs.Common.{◌||◌, ◌∙◌, ap, sym, subst}
use Rattle.std.specs.Prelude.{◌↔◌, ◌⊎◌, IsTrue, filter}
use Rattle.cond_formula.specs.Features.{has}
use Rattle.cond_formula.specs.Conditions.{condition_of, value}
use Rattle.core_meaning.specs.Linking.{IsFault}
use Rattle.core_meaning.specs.declared.refusals.LinkKind.TheVariants as link_kind
use Rattle.link_faults.specs.SeenUnits.{is_present}
use Rattle.link_faults.proofs.SeenLaws.{undefined_seen, duplicate_seen}
use Rattle.link_faults.specs.Apart.{AreSeenApart}
use Rattle.link_faults.specs.Faulty.{HasFault}
use Rattle.link_faults.proofs.Correspondence.{incompatible_seen}
use Rattle.link_faults.proofs.FaultLaws.{either_says, tested_as, said}
use Rattle.link_faults.proofs.failing.where_name_has_fault.Goals as goal

pub returns-clause-exact : goal.returns-clause-exact
returns-clause-exact g c = λ n by linked admitted alike follow.
    let on = has n in
    let tables = c.args.tables.now in
    let units = c.args.units.now in
    let name = c.args.name.now in
    let lefts = filter (is_present on) units in
    let u = value on (condition_of c.in_ok-undefined.undefined) in
    let d = value on (condition_of c.in_ok-duplicate.duplicate) in
    let i = value on (condition_of c.in_ok-incompatible.incompatible) in
    subst (λ b. IsTrue b ↔ HasFault linked name) (sym (c.in_ok-f.ensures on ∙ ap (λ b. u || b) (c.in_ok-rest.ensures on)))
    (either_says u (d || i) (IsFault linked link_kind.Undefined name) (IsFault linked link_kind.Duplicate name ⊎ IsFault linked link_kind.Incompatible name)
    (tested_as u _ (c.in_ok-undefined.ensures on ∙ sym (undefined_seen on tables by linked.structs linked.units lefts alike name)))
    (either_says d i (IsFault linked link_kind.Duplicate name) (IsFault linked link_kind.Incompatible name)
    (tested_as d _ (c.in_ok-duplicate.ensures on ∙ sym (duplicate_seen on tables by linked.structs linked.units lefts alike name)))
    (said i (AreSeenApart on tables units name) (IsFault linked link_kind.Incompatible name)
    (c.in_ok-incompatible.ensures.exact n admitted) (incompatible_seen on tables by linked units follow alike name))))
