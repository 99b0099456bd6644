-- How an action of a machine is shown from another.
use Rattle.std.proofs.Common.{◌≡◌, List, ◌∷◌, map, refl, sym, ◌∙◌, ap, Option, Some, None, Result, IfOk}
use Rattle.std.proofs.lemmas.Result.{IfOk-weaker}
use Rattle.core_meaning.specs.Plain.{plain_program}
use Rattle.core_meaning.specs.Outcomes.{Outcome, after}
use Rattle.core_meaning.specs.Meaning.{Ending}
use Rattle.core_memory.specs.declared.memory.Memory.{Memory}
use Rattle.interp_actions.specs.declared.control.Control.{Control}
use Rattle.interp_actions.specs.declared.actions.Action.{Action}
use Rattle.interp_actions.specs.declared.actions.Operand.{Operand}
use Rattle.interp_actions.specs.Forms.{plain_actions, plain_operand, plain_frame}
use Rattle.interp_actions.specs.Finish.{finish}
use Rattle.interp_actions.specs.Pieces.{StepsWith, PutsGiven, operands_in}
use Rattle.interp_actions.specs.Stacks.{Steps, actions_of, operands_of}
use Rattle.interp_actions.specs.StackLaws.{fails_behind}
use Rattle.run_machine.specs.declared.machine.Machine.{Machine}
use Rattle.interp_actions.specs.declared.actions.Flow.{Flow}
use Rattle.interp_actions.specs.declared.actions.Flow.TheVariants.{Goes, Exits, Stops, Fails}
use Rattle.interp_actions.specs.Actions.{PlainAction, PlainOperand}
use Rattle.run_machine.specs.Machines.{outcome_of, outcome_with, Does, program_of, state_of, ComesTo, given_outcome}

-- what the first action does from a machine, the second does from another that comes to the same
pub does_from : (flow : Flow) (first second : PlainAction) (old middle new : Machine) → outcome_with first middle ≡ outcome_with second old → Does flow first middle new → Does flow second old new
does_from Goes first second old middle new same does = does ∙ same
does_from (Exits status) first second old middle new same does = sym same ∙ does
does_from Stops first second old middle new same does = sym same ∙ does
does_from Fails first second old middle new same does = sym same ∙ does

-- an action that needs the stacks and memory, as one of a machine
pub does_with : (flow : Flow) (action : PlainAction) (old : Machine) (control : Control) (memory : Memory) → StepsWith flow action old.control control old.memory memory → Does flow action old (record old { control = control; memory = memory })
does_with Goes action old control memory steps =
    ap (after old.output.items) (steps.same (plain_program old.program.now) old.frame.types.now old.frame.slots.items old.frame.bound (state_of old))
does_with Fails action old control memory steps =
    fails_behind old.output.items _ (steps.undefined (plain_program old.program.now) old.frame.types.now old.frame.slots.items old.frame.bound (state_of old))
does_with (Exits status) action old control memory steps = absurd steps
does_with Stops action old control memory steps = absurd steps

-- an action that needs the stacks alone
pub does_alone : (flow : Flow) (action : PlainAction) (old : Machine) (control : Control) → Steps flow action old.control control → Does flow action old (record old { control = control })
does_alone Goes action old control steps =
    ap (after old.output.items) (steps.same (program_of old) old.frame.types.now old.frame.slots.items old.frame.bound (state_of old))
does_alone Fails action old control steps =
    fails_behind old.output.items _ (steps.undefined (program_of old) old.frame.types.now old.frame.slots.items old.frame.bound (state_of old))
does_alone (Exits status) action old control steps = absurd steps
does_alone Stops action old control steps = absurd steps

-- the same of what they answer, which want of memory leaves open
pub do_with : {E : Type 0} (r : Result Flow E) (action : PlainAction) (old : Machine) (control : Control) (memory : Memory) → IfOk r (λ flow. StepsWith flow action old.control control old.memory memory) → IfOk r (λ flow. Does flow action old (record old { control = control; memory = memory }))
do_with r action old control memory =
    IfOk-weaker r (λ flow. StepsWith flow action old.control control old.memory memory) (λ flow. Does flow action old (record old { control = control; memory = memory }))
    (λ flow. does_with flow action old control memory)

pub do_alone : {E : Type 0} (r : Result Flow E) (action : PlainAction) (old : Machine) (control : Control) → IfOk r (λ flow. Steps flow action old.control control) → IfOk r (λ flow. Does flow action old (record old { control = control }))
do_alone r action old control =
    IfOk-weaker r (λ flow. Steps flow action old.control control) (λ flow. Does flow action old (record old { control = control }))
    (λ flow. does_alone flow action old control)

-- an operand is put, if there is one
pub comes_given : (flow : Flow) (o : Option PlainOperand) (old : Machine) (control : Control) → PutsGiven flow o old.control control → ComesTo flow (given_outcome o old) (record old { control = control })
comes_given Goes (Some o) old control put =
    ap (after old.output.items)
    (ap (λ actions. finish (program_of old) (plain_actions old.frame.types.now old.frame.slots.items actions) old.frame.bound (plain_frame old.frame.types.now old.frame.slots.items) (operands_in control) (state_of old)) put.actions
    ∙ ap (λ os. finish (program_of old) (plain_actions old.frame.types.now old.frame.slots.items (actions_of old.control)) old.frame.bound (plain_frame old.frame.types.now old.frame.slots.items) os (state_of old)) put.operands)
comes_given Fails None old control put = fails_behind old.output.items _ refl
comes_given Goes None old control put = absurd put
comes_given Fails (Some o) old control put = absurd put
comes_given (Exits status) o old control put = absurd put
comes_given Stops o old control put = absurd put

-- what a machine has come to, as an action of another
pub comes_is : (flow : Flow) (wanted : Outcome Ending) (action : PlainAction) (old new : Machine) → ComesTo flow wanted new → wanted ≡ outcome_with action old → Does flow action old new
comes_is Goes wanted action old new comes same = comes ∙ same
comes_is (Exits status) wanted action old new comes same = sym same ∙ comes
comes_is Stops wanted action old new comes same = sym same ∙ comes
comes_is Fails wanted action old new comes same = sym same ∙ comes

pub comes_same : (flow : Flow) (first second : Outcome Ending) (new : Machine) → ComesTo flow first new → first ≡ second → ComesTo flow second new
comes_same Goes first second new comes same = comes ∙ same
comes_same (Exits status) first second new comes same = sym same ∙ comes
comes_same Stops first second new comes same = sym same ∙ comes
comes_same Fails first second new comes same = sym same ∙ comes

pub does_comes : (flow : Flow) (wanted : Outcome Ending) (action : PlainAction) (middle new : Machine) → Does flow action middle new → outcome_with action middle ≡ wanted → ComesTo flow wanted new
does_comes Goes wanted action middle new does same = does ∙ same
does_comes (Exits status) wanted action middle new does same = sym same ∙ does
does_comes Stops wanted action middle new does same = sym same ∙ does
does_comes Fails wanted action middle new does same = sym same ∙ does

-- an operand was taken from the stack
pub operand_taken :
    (m : Machine) (control : Control) (taken : Operand) (action : PlainAction)
    → actions_of control ≡ actions_of m.control → operands_of m.control ≡ taken ∷ operands_of control
    → after m.output.items
    (finish (program_of m) (action ∷ plain_actions m.frame.types.now m.frame.slots.items (actions_of control)) m.frame.bound
    (plain_frame m.frame.types.now m.frame.slots.items) (plain_operand taken ∷ operands_in control) (state_of m))
    ≡ outcome_with action m
operand_taken m control taken action same_actions same_operands =
    ap (after m.output.items)
    (ap (λ ts. finish (program_of m) (action ∷ plain_actions m.frame.types.now m.frame.slots.items ts) m.frame.bound (plain_frame m.frame.types.now m.frame.slots.items) (plain_operand taken ∷ operands_in control) (state_of m)) same_actions
    ∙ sym (ap (λ os. finish (program_of m) (action ∷ plain_actions m.frame.types.now m.frame.slots.items (actions_of m.control)) m.frame.bound (plain_frame m.frame.types.now m.frame.slots.items) (map plain_operand os) (state_of m)) same_operands))

-- what a machine comes to whose stacks are known
pub stacks_come :
    (m : Machine) (control : Control) (actions : List Action) (operands : List Operand) (wanted : Outcome Ending)
    → actions_of control ≡ actions → operands_of control ≡ operands
    → after m.output.items
    (finish (program_of m) (plain_actions m.frame.types.now m.frame.slots.items actions) m.frame.bound
    (plain_frame m.frame.types.now m.frame.slots.items) (map plain_operand operands) (state_of m))
    ≡ wanted
    → outcome_of (record m { control = control }) ≡ wanted
stacks_come m control actions operands wanted same_actions same_operands same =
    ap (λ ts. after m.output.items (finish (program_of m) (plain_actions m.frame.types.now m.frame.slots.items ts) m.frame.bound (plain_frame m.frame.types.now m.frame.slots.items) (operands_in control) (state_of m))) same_actions
    ∙ (ap (λ os. after m.output.items (finish (program_of m) (plain_actions m.frame.types.now m.frame.slots.items actions) m.frame.bound (plain_frame m.frame.types.now m.frame.slots.items) (map plain_operand os) (state_of m))) same_operands
    ∙ same)

pub plain_stacks_come :
    (m : Machine) (control : Control) (ts : List PlainAction) (os : List PlainOperand) (wanted : Outcome Ending)
    → plain_actions m.frame.types.now m.frame.slots.items (actions_of control) ≡ ts → operands_in control ≡ os
    → after m.output.items
    (finish (program_of m) ts m.frame.bound (plain_frame m.frame.types.now m.frame.slots.items) os (state_of m))
    ≡ wanted
    → outcome_of (record m { control = control }) ≡ wanted
plain_stacks_come m control ts os wanted same_actions same_operands same =
    ap (λ ts. after m.output.items (finish (program_of m) ts m.frame.bound (plain_frame m.frame.types.now m.frame.slots.items) (operands_in control) (state_of m))) same_actions
    ∙ (ap (λ os. after m.output.items (finish (program_of m) ts m.frame.bound (plain_frame m.frame.types.now m.frame.slots.items) os (state_of m))) same_operands
    ∙ same)

-- ---- the same of answers, which want of memory leaves open

pub do_from : {E : Type 0} (r : Result Flow E) (first second : PlainAction) (old middle new : Machine) → outcome_with first middle ≡ outcome_with second old → IfOk r (λ flow. Does flow first middle new) → IfOk r (λ flow. Does flow second old new)
do_from r first second old middle new same =
    IfOk-weaker r (λ flow. Does flow first middle new) (λ flow. Does flow second old new)
    (λ flow. does_from flow first second old middle new same)

pub come_given : {E : Type 0} (r : Result Flow E) (o : Option PlainOperand) (old : Machine) (control : Control) → IfOk r (λ flow. PutsGiven flow o old.control control) → IfOk r (λ flow. ComesTo flow (given_outcome o old) (record old { control = control }))
come_given r o old control =
    IfOk-weaker r (λ flow. PutsGiven flow o old.control control) (λ flow. ComesTo flow (given_outcome o old) (record old { control = control }))
    (λ flow. comes_given flow o old control)

pub come_is : {E : Type 0} (r : Result Flow E) (wanted : Outcome Ending) (action : PlainAction) (old new : Machine) → IfOk r (λ flow. ComesTo flow wanted new) → wanted ≡ outcome_with action old → IfOk r (λ flow. Does flow action old new)
come_is r wanted action old new comes same =
    IfOk-weaker r (λ flow. ComesTo flow wanted new) (λ flow. Does flow action old new)
    (λ flow come. comes_is flow wanted action old new come same) comes

pub come_same : {E : Type 0} (r : Result Flow E) (first second : Outcome Ending) (new : Machine) → IfOk r (λ flow. ComesTo flow first new) → first ≡ second → IfOk r (λ flow. ComesTo flow second new)
come_same r first second new comes same =
    IfOk-weaker r (λ flow. ComesTo flow first new) (λ flow. ComesTo flow second new)
    (λ flow come. comes_same flow first second new come same) comes

pub do_come : {E : Type 0} (r : Result Flow E) (wanted : Outcome Ending) (action : PlainAction) (middle new : Machine) → IfOk r (λ flow. Does flow action middle new) → outcome_with action middle ≡ wanted → IfOk r (λ flow. ComesTo flow wanted new)
do_come r wanted action middle new does same =
    IfOk-weaker r (λ flow. Does flow action middle new) (λ flow. ComesTo flow wanted new)
    (λ flow does. does_comes flow wanted action middle new does same) does
