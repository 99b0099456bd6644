use Rattle.std.proofs.Common.{◌≡◌, ◌-◌, ◌∷◌, suc, map, reverse, ap, ◌∙◌, arith, refl}
use Rattle.core_meaning.specs.Plain.{plain_items}
use Rattle.core_cells.specs.Forms.{plain_value}
use Rattle.interp_actions.specs.declared.actions.Frame.{Frame}
use Rattle.interp_actions.specs.Actions.{enter_action, return_action}
use Rattle.interp_actions.specs.Forms.{plain_actions, plain_frame}
use Rattle.interp_actions.specs.Stacks.{actions_of}
use Rattle.run_calls.proofs.CallLemmas.{call_begins}
use Rattle.run_machine.proofs.ListLemmas.{turned_twice}
use Rattle.run_calls.proofs.calls.call_defined.Goals as goal

pub returns : goal.returns
returns c = λ f found.
    let old = c.args.machine.now in
    let inner = c.replace-caller.new.dest in
    let definition = c.args.definition.now in
    let values = c.args.arguments.items in
    let turned = c.reverse.new.self.items in
    let behind = actions_of old.control in
    let below = c.if-machine-eq0.false in
    let left : old.frame.bound ≡ suc (old.frame.bound - 1) = omega arith in
    call_begins old (record old.control { actions = c.push_two.new.stack }) inner f (old.frame.bound - 1) (map plain_value values) definition.slots.items (plain_items definition.body.items)
    (ap (λ (g : Frame). g.types.now) c.replace-caller.ensures.after ∙ c.in_ok-inner.ensures.types)
    (ap (λ (g : Frame). g.slots.items) c.replace-caller.ensures.after ∙ c.in_ok-inner.ensures.slots)
    (ap (λ (g : Frame). g.bound) c.replace-caller.ensures.after ∙ c.in_ok-inner.ensures.bound)
    left found
    (ap (plain_actions inner.types.now inner.slots.items) c.in_ok-push_two.ensures
    ∙ (ap (λ (g : Frame). enter_action 0 (reverse (map plain_value turned)) (plain_items c.deref.result.now) ∷ return_action g.bound (plain_frame g.types.now g.slots.items) ∷ plain_actions g.types.now g.slots.items behind) c.replace-caller.ensures.value
    ∙ (ap (λ vs. enter_action 0 vs (plain_items c.deref.result.now) ∷ return_action old.frame.bound (plain_frame old.frame.types.now old.frame.slots.items) ∷ plain_actions old.frame.types.now old.frame.slots.items behind) (ap (λ xs. reverse (map plain_value xs)) c.reverse.ensures.items ∙ turned_twice values)
    ∙ ap (λ body. enter_action 0 (map plain_value values) (plain_items body) ∷ return_action old.frame.bound (plain_frame old.frame.types.now old.frame.slots.items) ∷ plain_actions old.frame.types.now old.frame.slots.items behind) c.deref.ensures.value)))
    refl
