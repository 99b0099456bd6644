use Rattle.std.proofs.Common.{List, refl, subst, ◌∙◌}
use Rattle.cond_formula.specs.Features.{has}
use Rattle.cond_bindings.specs.declared.unit_bindings.UnitBindings.{UnitBindings}
use Rattle.cond_scopes.specs.Units.{present_trees}
use Rattle.cond_types.specs.Uses.{HaveUses}
use Rattle.cond_types.proofs.Judged.{program_typed}
use Rattle.cond_types.proofs.LeftLemmas.{in_grammar, left_where_taken, types_told}
use Rattle.cond_types.proofs.typing.types.Goals as goal

pub returns-clause-typed : goal.returns-clause-typed
returns-clause-typed g c = λ c' admitted scoped written globals numbers.
    let units = c.args.units.now in
    let forests = c.args.forests.now in
    let bound = c.args.b.now.units.items in
    let found = c.in_ok-found.found in
    let have = subst (λ (bs : List UnitBindings). HaveUses bs 0 found.units.items c.in_ok-units.units.items) c.deref.ensures.value c.in_ok-units.ensures in
    types_told c.file_names_are_used_alike.ensures (has c') units forests bound found (record { units = c.in_ok-units.units; tables = found.tables; refused = found.refused }) refl refl have
    (c.in_ok-found.ensures.present c' admitted) scoped.used written globals numbers (c.in_ok-found.ensures.typed c' admitted (in_grammar (has c') units forests written) globals numbers)

pub returns-clause-judged : goal.returns-clause-judged
returns-clause-judged g c = λ c' admitted scoped written.
    program_typed (has c') (record { units = c.in_ok-units.units; tables = c.in_ok-found.found.tables; refused = c.in_ok-found.found.refused }) (present_trees (has c') c.args.units.now c.args.forests.now)
    (λ globals numbers. returns-clause-typed g c c' admitted scoped written globals numbers)

pub returns-clause-present : goal.returns-clause-present
returns-clause-present g c = λ c' admitted.
    let found = c.in_ok-found.found in
    let have = subst (λ (bs : List UnitBindings). HaveUses bs 0 found.units.items c.in_ok-units.units.items) c.deref.ensures.value c.in_ok-units.ensures in
    left_where_taken (has c') c.args.b.now.units.items 0 found.units.items c.in_ok-units.units.items have ∙ c.in_ok-found.ensures.present c' admitted
