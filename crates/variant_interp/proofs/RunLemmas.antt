-- The first call of `main`.
use Rattle.std.proofs.Common.{◌≡◌, ℕ, List, [], ◌∷◌, map, sym, ap, ◌∙◌, Option, Some, None, slice_get}
use Rattle.c_types.specs.Types.{PlainType, plain_type}
use Rattle.core_meaning.specs.declared.program.Definition.{Definition}
use Rattle.core_meaning.specs.Plain.{plain_items}
use Rattle.core_meaning.specs.Program.{PlainProgram, PlainFunction, PlainItems, defined}
use Rattle.core_meaning.specs.Outcomes.{State, after, give}
use Rattle.core_meaning.specs.Meaning.{Frame, body_of, meaning, job_ending}
use Rattle.interp_actions.specs.Actions.{items_action}
use Rattle.interp_actions.specs.Continued.{enter_function_then, job_then}
use Rattle.interp_actions.specs.Forms.{plain_actions, plain_operand, plain_frame}
use Rattle.interp_actions.specs.Finish.{finish}
use Rattle.interp_actions.specs.Stacks.{actions_of, operands_of}
use Rattle.run_machine.specs.declared.machine.Machine.{Machine}
use Rattle.run_machine.specs.Machines.{outcome_of, program_of, state_of}
use Rattle.variant_interp.specs.Starts.{Begins}
use Rattle.run_machine.proofs.ContinuedLaws.{after_nothing, first_call_is}
use Rattle.run_machine.proofs.FrameLemmas.{nothing_declared}

abbrev bare : List PlainType → Frame
bare types = record { types = types; objects = λ k. None }

main_begins :
    (p : PlainProgram) (types : List PlainType) (body : PlainItems) (n : ℕ) (s : State)
    → slice_get p.functions p.main ≡ Some (defined types body)
    → after [] (finish p (items_action body ∷ []) n (bare types) [] s)
    ≡ job_ending p (meaning p n) (body_of p.main []) s
main_begins p types body n s found =
    after_nothing (finish p (items_action body ∷ []) n (bare types) [] s)
    ∙ (sym (ap (λ (f : Option PlainFunction). enter_function_then p (job_then p n) f [] give s) found)
    ∙ first_call_is p n s)

-- a machine with the items of `main` to do comes to what the first call of `main` does
pub first_outcome :
    (p : PlainProgram) (main : Definition) (n : ℕ) (s : State) (m : Machine)
    → slice_get p.functions p.main ≡ Some (defined (map plain_type main.slots.items) (plain_items main.body.items))
    → Begins p main n s m
    → outcome_of m ≡ job_ending p (meaning p n) (body_of p.main []) s
first_outcome p main n s m found begins =
    let types = main.slots.items in
    let body = plain_items main.body.items in
    let frame : plain_frame m.frame.types.now m.frame.slots.items ≡ bare (map plain_type types) =
    ap (λ ts. plain_frame ts m.frame.slots.items) begins.types ∙ (ap (plain_frame types) begins.slots ∙ nothing_declared types) in
    let actions = plain_actions m.frame.types.now m.frame.slots.items (actions_of m.control) in
    let operands = map plain_operand (operands_of m.control) in
    let there = plain_frame m.frame.types.now m.frame.slots.items in
    ap (λ out. after out (finish (program_of m) actions m.frame.bound there operands (state_of m))) begins.output
    ∙ (ap (λ q. after [] (finish q actions m.frame.bound there operands (state_of m))) begins.program
    ∙ (ap (λ ts. after [] (finish p ts m.frame.bound there operands (state_of m))) begins.actions
    ∙ (ap (λ k. after [] (finish p (items_action body ∷ []) k there operands (state_of m))) begins.bound
    ∙ (ap (λ (f : Frame). after [] (finish p (items_action body ∷ []) n f operands (state_of m))) frame
    ∙ (ap (λ os. after [] (finish p (items_action body ∷ []) n (bare (map plain_type types)) (map plain_operand os) (state_of m))) begins.operands
    ∙ (ap (λ (t : State). after [] (finish p (items_action body ∷ []) n (bare (map plain_type types)) [] t)) begins.state
    ∙ main_begins p (map plain_type types) body n s found))))))
