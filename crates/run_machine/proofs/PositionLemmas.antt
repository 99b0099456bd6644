-- Where machines stand, and what they come to from there.
use Rattle.std.proofs.Common.{◌≡◌, ℕ, suc, ◌<◌, List, [], ◌∷◌, ◌++◌, map, reverse, set, get_or, length, refl, sym, ◌∙◌, ap, Option, Some, None}
use Rattle.std.proofs.lemmas.List.{reverse-append}
use Rattle.c_types.specs.Types.{PlainType}
use Rattle.core_meaning.specs.Plain.{plain_program, plain_items}
use Rattle.core_meaning.specs.Program.{PlainProgram, PlainPart, PlainItems}
use Rattle.core_meaning.specs.declared.statements.Item.{Item}
use Rattle.core_meaning.specs.Values.{Path, Pointer, at, Value}
use Rattle.core_meaning.specs.Memory as plain_memory_form
use Rattle.core_meaning.specs.Memory.{unwritten, fresh, with_new, written_at}
use Rattle.core_meaning.specs.Outcomes.{State, Outcome, Fails, after}
use Rattle.core_meaning.specs.Meaning.{Ending, Frame, with_slot}
use Rattle.core_memory.specs.declared.memory.Memory.{Memory}
use Rattle.core_memory.specs.MemoryForms.{plain_memory, structs_of}
use Rattle.interp_actions.specs.declared.control.Control.{Control}
use Rattle.interp_actions.specs.declared.actions.Action.TheVariants as action_kind
use Rattle.interp_actions.specs.Actions.{PlainInitialiser, PlainAction, initialise_action, parts_action, items_action, enter_action, end_scope_action, PlainOperand, place_operand}
use Rattle.interp_actions.specs.Continued.{given_then, write_then}
use Rattle.interp_actions.specs.Forms.{plain_actions, plain_operand, plain_frame}
use Rattle.interp_actions.specs.Finish.{finish}
use Rattle.interp_actions.specs.Pieces.{operands_in}
use Rattle.interp_actions.specs.Stacks.{actions_of, operands_of}
use Rattle.interp_actions.specs.StackLaws.{fails_behind}
use Rattle.run_machine.specs.declared.machine.Machine.{Machine}
use Rattle.run_machine.specs.Machines.{outcome_of, outcome_with, program_of, state_of, Position, position_of, declared_at, declared_outcome, written_outcome, entered_outcome, temporary_outcome, with_operand}
use Rattle.run_machine.proofs.FrameLemmas.{slot_set, slot_restored}

-- a machine with another memory
pub memory_same :
    (m : Machine) (memory : Memory) (now : plain_memory_form.Memory) (ts : List PlainAction) (os : List PlainOperand) (temporaries : List ℕ)
    → structs_of memory ≡ structs_of m.memory → plain_memory memory ≡ now
    → after m.output.items
    (finish (record (plain_program m.program.now) { structs = structs_of memory }) ts m.frame.bound (plain_frame m.frame.types.now m.frame.slots.items) os
    (record { memory = plain_memory memory; input = m.input.now; temporaries = temporaries }))
    ≡ after m.output.items
    (finish (program_of m) ts m.frame.bound (plain_frame m.frame.types.now m.frame.slots.items) os
    (record { memory = now; input = m.input.now; temporaries = temporaries }))
memory_same m memory now ts os temporaries same_structs same =
    ap (λ structs. after m.output.items (finish (record (plain_program m.program.now) { structs = structs }) ts m.frame.bound (plain_frame m.frame.types.now m.frame.slots.items) os (record { memory = plain_memory memory; input = m.input.now; temporaries = temporaries }))) same_structs
    ∙ ap (λ held. after m.output.items (finish (program_of m) ts m.frame.bound (plain_frame m.frame.types.now m.frame.slots.items) os (record { memory = held; input = m.input.now; temporaries = temporaries }))) same

abbrev position_from : PlainProgram → List PlainAction → ℕ → Frame → List PlainOperand → State → List ℕ → Position
position_from program actions bound frame operands state output =
    record { program = program; actions = actions; bound = bound; frame = frame; operands = operands; state = state; output = output }

same_position :
    (p q : PlainProgram) (ts us : List PlainAction) (n k : ℕ) (f g : Frame) (os ps : List PlainOperand) (s t : State) (a b : List ℕ)
    → p ≡ q → ts ≡ us → n ≡ k → f ≡ g → os ≡ ps → s ≡ t → a ≡ b
    → position_from p ts n f os s a ≡ position_from q us k g ps t b
same_position p q ts us n k f g os ps s t a b e1 e2 e3 e4 e5 e6 e7 =
    ap (λ x. position_from x ts n f os s a) e1
    ∙ (ap (λ x. position_from q x n f os s a) e2
    ∙ (ap (λ x. position_from q us x f os s a) e3
    ∙ (ap (λ x. position_from q us k x os s a) e4
    ∙ (ap (λ x. position_from q us k g x s a) e5
    ∙ (ap (λ x. position_from q us k g ps x a) e6
    ∙ ap (position_from q us k g ps t) e7)))))

abbrev state_from : plain_memory_form.Memory → List ℕ → List ℕ → State
state_from memory input temporaries = record { memory = memory; input = input; temporaries = temporaries }

-- a slot has a new object
pub declared_position :
    (m new : Machine) (i object : ℕ) (t : PlainType) (before : Option ℕ)
    → i < length m.frame.slots.items → before ≡ get_or m.frame.slots.items i before → object ≡ (plain_memory m.memory).made
    → new.program.now ≡ m.program.now → structs_of new.memory ≡ structs_of m.memory
    → plain_memory new.memory ≡ with_new (plain_memory m.memory) (fresh t unwritten)
    → new.input.now ≡ m.input.now → new.temporaries.items ≡ m.temporaries.items → new.output.items ≡ m.output.items
    → new.frame.bound ≡ m.frame.bound → new.frame.types.now ≡ m.frame.types.now → new.frame.slots.items ≡ set m.frame.slots.items i (Some object)
    → actions_of new.control ≡ action_kind.EndScope i object before ∷ actions_of m.control → operands_of new.control ≡ operands_of m.control
    → position_of new ≡ declared_at i t (position_of m)
declared_position m new i object t before within held made program structs memory input temporaries output bound types slots actions operands =
    let frame : plain_frame new.frame.types.now new.frame.slots.items ≡ with_slot (plain_frame m.frame.types.now m.frame.slots.items) i (plain_memory m.memory).made =
    ap (λ types. plain_frame types new.frame.slots.items) types
    ∙ (ap (plain_frame m.frame.types.now) slots
    ∙ (slot_set m.frame.types.now m.frame.slots.items i object within
    ∙ ap (with_slot (plain_frame m.frame.types.now m.frame.slots.items) i) made)) in
    let back : set new.frame.slots.items i before ≡ m.frame.slots.items =
    ap (λ slots. set slots i before) slots ∙ slot_restored m.frame.slots.items i (Some object) before held in
    let stack : plain_actions new.frame.types.now new.frame.slots.items (actions_of new.control) ≡ end_scope_action (plain_memory m.memory).made (plain_frame m.frame.types.now m.frame.slots.items) ∷ plain_actions m.frame.types.now m.frame.slots.items (actions_of m.control) =
    ap (plain_actions new.frame.types.now new.frame.slots.items) actions
    ∙ (ap (λ slots. end_scope_action object (plain_frame new.frame.types.now slots) ∷ plain_actions new.frame.types.now slots (actions_of m.control)) back
    ∙ (ap (λ types. end_scope_action object (plain_frame types m.frame.slots.items) ∷ plain_actions types m.frame.slots.items (actions_of m.control)) types
    ∙ ap (λ k. end_scope_action k (plain_frame m.frame.types.now m.frame.slots.items) ∷ plain_actions m.frame.types.now m.frame.slots.items (actions_of m.control)) made)) in
    same_position (program_of new) (program_of m) _ _ new.frame.bound m.frame.bound _ _ _ _ (state_of new)
    (state_from (with_new (plain_memory m.memory) (fresh t unwritten)) m.input.now (reverse m.temporaries.items)) new.output.items m.output.items
    (ap (λ p. record (plain_program p) { structs = structs_of new.memory }) program
    ∙ ap (λ held. record (plain_program m.program.now) { structs = held }) structs)
    stack bound frame (ap (map plain_operand) operands)
    (ap (λ held. state_from held new.input.now (reverse new.temporaries.items)) memory
    ∙ (ap (λ held. state_from (with_new (plain_memory m.memory) (fresh t unwritten)) held (reverse new.temporaries.items)) input
    ∙ ap (λ held. state_from (with_new (plain_memory m.memory) (fresh t unwritten)) m.input.now (reverse held)) temporaries))
    output

-- a local is declared, and its initialiser and the items behind it are to be done
pub local_begins :
    (old middle : Machine) (control : Control) (i : ℕ) (x : PlainInitialiser) (rest : List Item)
    → position_of middle ≡ declared_at i x.ty (position_of old) → x.object ≡ (plain_memory old.memory).made
    → plain_actions middle.frame.types.now middle.frame.slots.items (actions_of control) ≡ items_action (plain_items rest) ∷ (position_of middle).actions
    → operands_of control ≡ operands_of middle.control
    → outcome_with (initialise_action x) (record middle { control = control }) ≡ declared_outcome i x.ty x.parts (plain_items rest) old
local_begins old middle control i x rest declared made actions operands =
    ap (after middle.output.items)
    (ap (λ ts. finish (program_of middle) (initialise_action x ∷ ts) middle.frame.bound (position_of middle).frame (operands_in control) (state_of middle)) actions
    ∙ ap (λ os. finish (program_of middle) (initialise_action x ∷ items_action (plain_items rest) ∷ (position_of middle).actions) middle.frame.bound (position_of middle).frame (map plain_operand os) (state_of middle)) operands)
    ∙ (ap (λ (at_ : Position). after at_.output (finish at_.program (initialise_action x ∷ items_action (plain_items rest) ∷ at_.actions) at_.bound at_.frame at_.operands at_.state)) declared
    ∙ ap (λ k. let at_ = declared_at i x.ty (position_of old) in after at_.output (finish at_.program (initialise_action (record x { object = k }) ∷ items_action (plain_items rest) ∷ at_.actions) at_.bound at_.frame at_.operands at_.state)) made)

-- what a written value leaves is known
pub written_known :
    (structs : List (List PlainType)) (q : Pointer) (v : Value) (k : State → Outcome Ending) (s : State) (now : Option plain_memory_form.Memory)
    → written_at structs s.memory q v ≡ now
    → write_then structs q v k s ≡ given_then now (λ m t. k (record t { memory = m })) s
written_known structs q v k s now same = ap (λ o. given_then o (λ m t. k (record t { memory = m })) s) same

-- a parameter gets its argument, by where the machine stands once the parameter is declared
pub entered_from :
    (old middle : Machine) (i object : ℕ) (t : PlainType) (v : Value) (vs : List Value) (body : PlainItems)
    → position_of middle ≡ declared_at i t (position_of old) → object ≡ (plain_memory old.memory).made
    → entered_outcome i t v vs body old
    ≡ after middle.output.items
    (write_then (structs_of middle.memory) (at object []) v
    (finish (program_of middle) (enter_action (suc i) vs body ∷ (position_of middle).actions) middle.frame.bound (position_of middle).frame (operands_in middle.control))
    (state_of middle))
entered_from old middle i object t v vs body declared made =
    ap (λ k. let at_ = declared_at i t (position_of old) in after at_.output (write_then at_.program.structs (at k []) v (finish at_.program (enter_action (suc i) vs body ∷ at_.actions) at_.bound at_.frame at_.operands) at_.state)) (sym made)
    ∙ ap (λ (at_ : Position). after at_.output (write_then at_.program.structs (at object []) v (finish at_.program (enter_action (suc i) vs body ∷ at_.actions) at_.bound at_.frame at_.operands) at_.state)) (sym declared)

-- a temporary object is made, by what is known of memory then
pub temporary_known :
    (m : Machine) (t : PlainType) (v : Value) (object : ℕ) (made : Memory) (now : Option plain_memory_form.Memory)
    → structs_of made ≡ structs_of m.memory → plain_memory made ≡ with_new (plain_memory m.memory) (fresh t unwritten)
    → object ≡ (plain_memory m.memory).made
    → written_at (structs_of made) (plain_memory made) (at object []) v ≡ now
    → temporary_outcome t v m
    ≡ after m.output.items
    (given_then now (λ held s. with_operand m (place_operand (at object [])) (state_from held s.input (object ∷ s.temporaries))) (state_from (with_new (plain_memory m.memory) (fresh t unwritten)) m.input.now (reverse m.temporaries.items)))
temporary_known m t v object made now structs memory number written =
    ap (λ k. after m.output.items (given_then (written_at (structs_of m.memory) (with_new (plain_memory m.memory) (fresh t unwritten)) (at k []) v) (λ held s. with_operand m (place_operand (at k [])) (state_from held s.input (k ∷ s.temporaries))) (state_from (with_new (plain_memory m.memory) (fresh t unwritten)) m.input.now (reverse m.temporaries.items)))) (sym number)
    ∙ ap (λ o. after m.output.items (given_then o (λ held s. with_operand m (place_operand (at object [])) (state_from held s.input (object ∷ s.temporaries))) (state_from (with_new (plain_memory m.memory) (fresh t unwritten)) m.input.now (reverse m.temporaries.items))))
    (sym
    (ap (λ held. written_at (structs_of m.memory) held (at object []) v) memory)
    ∙ (ap (λ held. written_at held (plain_memory made) (at object []) v) (sym structs)
    ∙ written))

-- a temporary object is made and written
pub temporary_done :
    (m : Machine) (t : PlainType) (v : Value) (object : ℕ) (made held : Memory) (temporaries : List ℕ)
    → structs_of made ≡ structs_of m.memory → plain_memory made ≡ with_new (plain_memory m.memory) (fresh t unwritten)
    → object ≡ (plain_memory m.memory).made → structs_of held ≡ structs_of made → temporaries ≡ m.temporaries.items ++ object ∷ []
    → written_at (structs_of made) (plain_memory made) (at object []) v ≡ Some (plain_memory held)
    → after m.output.items
    (finish (record (plain_program m.program.now) { structs = structs_of held }) (position_of m).actions m.frame.bound (position_of m).frame (place_operand (at object []) ∷ operands_in m.control)
    (state_from (plain_memory held) m.input.now (reverse temporaries)))
    ≡ temporary_outcome t v m
temporary_done m t v object made held temporaries structs memory number same_structs more written =
    memory_same m held (plain_memory held) (position_of m).actions (place_operand (at object []) ∷ operands_in m.control) (reverse temporaries) (same_structs ∙ structs) refl
    ∙ (ap (λ ks. after m.output.items (with_operand m (place_operand (at object [])) (state_from (plain_memory held) m.input.now ks))) (ap reverse more ∙ reverse-append m.temporaries.items (object ∷ []))
    ∙ sym (temporary_known m t v object made (Some (plain_memory held)) structs memory number written))

-- a parameter has its argument, and the others are to get theirs
pub entered_done :
    (old middle : Machine) (control : Control) (held : Memory) (i object : ℕ) (t : PlainType) (v : Value) (vs : List Value) (body : PlainItems)
    → position_of middle ≡ declared_at i t (position_of old) → object ≡ (plain_memory old.memory).made
    → structs_of held ≡ structs_of middle.memory
    → written_at (structs_of middle.memory) (plain_memory middle.memory) (at object []) v ≡ Some (plain_memory held)
    → plain_actions middle.frame.types.now middle.frame.slots.items (actions_of control) ≡ enter_action (suc i) vs body ∷ (position_of middle).actions
    → operands_of control ≡ operands_of middle.control
    → outcome_of (record middle { memory = held; control = control }) ≡ entered_outcome i t v vs body old
entered_done old middle control held i object t v vs body declared made structs written actions operands =
    let s = state_from (plain_memory held) middle.input.now (reverse middle.temporaries.items) in
    memory_same middle held (plain_memory held) (plain_actions middle.frame.types.now middle.frame.slots.items (actions_of control)) (operands_in control) (reverse middle.temporaries.items) structs refl
    ∙ (ap (λ ts. after middle.output.items (finish (program_of middle) ts middle.frame.bound (position_of middle).frame (operands_in control) s)) actions
    ∙ (ap (λ os. after middle.output.items (finish (program_of middle) (enter_action (suc i) vs body ∷ (position_of middle).actions) middle.frame.bound (position_of middle).frame (map plain_operand os) s)) operands
    ∙ (sym (ap (after middle.output.items) (written_known (structs_of middle.memory) (at object []) v (finish (program_of middle) (enter_action (suc i) vs body ∷ (position_of middle).actions) middle.frame.bound (position_of middle).frame (operands_in middle.control)) (state_of middle) (Some (plain_memory held)) written))
    ∙ sym (entered_from old middle i object t v vs body declared made))))

pub entered_fails :
    (old middle : Machine) (i object : ℕ) (t : PlainType) (v : Value) (vs : List Value) (body : PlainItems)
    → position_of middle ≡ declared_at i t (position_of old) → object ≡ (plain_memory old.memory).made
    → written_at (structs_of middle.memory) (plain_memory middle.memory) (at object []) v ≡ None
    → entered_outcome i t v vs body old ≡ Fails middle.output.items
entered_fails old middle i object t v vs body declared made written =
    entered_from old middle i object t v vs body declared made
    ∙ fails_behind middle.output.items _ (written_known (structs_of middle.memory) (at object []) v (finish (program_of middle) (enter_action (suc i) vs body ∷ (position_of middle).actions) middle.frame.bound (position_of middle).frame (operands_in middle.control)) (state_of middle) None written)

-- a part of an initialiser is written, and the others are left
pub part_done :
    (m : Machine) (held : Memory) (x : PlainInitialiser) (path : Path) (left : List PlainPart) (v : Value)
    → structs_of held ≡ structs_of m.memory
    → written_at (structs_of m.memory) (plain_memory m.memory) (at x.object path) v ≡ Some (plain_memory held)
    → outcome_with (parts_action x left) (record m { memory = held }) ≡ written_outcome x path left v m
part_done m held x path left v structs written =
    memory_same m held (plain_memory held) (parts_action x left ∷ (position_of m).actions) (operands_in m.control) (reverse m.temporaries.items) structs refl
    ∙ sym (ap (after m.output.items) (written_known (structs_of m.memory) (at x.object path) v (finish (program_of m) (parts_action x left ∷ (position_of m).actions) m.frame.bound (position_of m).frame (operands_in m.control)) (state_of m) (Some (plain_memory held)) written))

pub part_fails :
    (m : Machine) (x : PlainInitialiser) (path : Path) (left : List PlainPart) (v : Value)
    → written_at (structs_of m.memory) (plain_memory m.memory) (at x.object path) v ≡ None
    → written_outcome x path left v m ≡ Fails m.output.items
part_fails m x path left v written =
    fails_behind m.output.items _ (written_known (structs_of m.memory) (at x.object path) v (finish (program_of m) (parts_action x left ∷ (position_of m).actions) m.frame.bound (position_of m).frame (operands_in m.control)) (state_of m) None written)
