use Rattle.std.proofs.Common.{IfOk, sym, ap, subst, ◌∙◌}
use Rattle.c_types.specs.Types.{plain_type}
use Rattle.core_meaning.specs.Plain.{plain_expression, plain_place}
use Rattle.core_meaning.specs.PlainLaws.{plain_place-Target, plain_place-Temporary}
use Rattle.core_meaning.specs.Program.{PlainPlace, target, temporary}
use Rattle.interp_actions.specs.Actions.{place_action}
use Rattle.run_machine.specs.Machines.{Does}
use Rattle.variant_interp.proofs.steps.begin_place.Goals as goal

pub returns-in-Target : goal.returns-in-Target
returns-in-Target c =
    subst (λ (place : PlainPlace). IfOk c.to_target.result (λ flow. Does flow (place_action place) c.args.machine.now c.to_target.new.machine))
    (sym (ap plain_place c.in-Target.is ∙ (plain_place-Target c.in-Target.pointer ∙ ap (λ e. target (plain_expression e)) (sym c.deref.ensures))))
    c.to_target.ensures

pub returns-in-Temporary : goal.returns-in-Temporary
returns-in-Temporary c =
    subst (λ (place : PlainPlace). IfOk c.to_temporary.result (λ flow. Does flow (place_action place) c.args.machine.now c.to_temporary.new.machine))
    (sym (ap plain_place c.in-Temporary.is ∙ (plain_place-Temporary c.in-Temporary.ty c.in-Temporary.value ∙ ap (λ e. temporary (plain_type c.in-Temporary.ty) (plain_expression e)) (sym c.deref-in-Temporary.ensures))))
    c.to_temporary.ensures
