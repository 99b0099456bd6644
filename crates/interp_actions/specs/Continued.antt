-- The meaning, with what follows each piece as an argument.
use Rattle.std.specs.Prelude.{ℕ, zero, suc, ◌+◌, Bool, true, false, not, List, [], ◌∷◌, Option, Some, None, length, option_map, slice_get, if◌then◌else◌}
use Rattle.c_types.specs.Types.{PlainType}
use Rattle.core_meaning.specs.declared.integers.IntegerType.{IntegerType}
use Rattle.core_meaning.specs.declared.expressions.Operation.{Operation}
use Rattle.core_meaning.specs.declared.expressions.Change.{Change}
use Rattle.core_meaning.specs.Values.{Pointer, null, at, Scalar, number, pointer, Value, nothing, scalar, whole, is_true, truth_number}
use Rattle.core_meaning.specs.Program.{PlainExpression, constant, null_constant, read, address, first_element, convert, binary, logical_not, logical_and, logical_or, choose, assign, update, update_after, call, discard, PlainPlace, slot, global, literal, target, member, temporary, PlainArguments, no_argument, argument, PlainPart, PlainStatement, block, evaluate, selection, loop, break_loop, continue_loop, return_nothing, return_value, PlainItems, no_item, local, statement_item, PlainFunction, defined, built_in, PlainProgram}
use Rattle.core_meaning.specs.Memory.{Memory, unwritten, zeros, fresh, with_object, with_new, with_ended, value_at, written_at, first_at, member_at}
use Rattle.core_memory.specs.OperationForms.{in_type_value, operated_value, changed_value}
use Rattle.core_meaning.specs.Outcomes.{State, Outcome, Stops, ◌>>=◌, undefined, without_temporaries}
use Rattle.core_meaning.specs.Meaning.{Ending, falls, breaks, continues, returns, Frame, with_slot, Job, body_of, turn, cells_filled, called_built_in}

-- what follows a piece that comes to an A
abbrev pub Rest : Type 0 → Type 0
Rest A = A → State → Outcome Ending

abbrev pub given_then : {A : Type 0} → Option A → Rest A → State → Outcome Ending
given_then (Some x) k = k x
given_then None k = undefined

abbrev pub used_then : Rest Value → Rest Value
used_then k nothing = undefined
used_then k (scalar v) = k (scalar v)
used_then k (whole cells) = k (whole cells)

abbrev pub scalar_then : Rest Scalar → Rest Value
scalar_then k (scalar v) = k v
scalar_then k other = undefined

abbrev pub pointer_then : Rest Pointer → Rest Value
pointer_then k (scalar (pointer q)) = k q
pointer_then k other = undefined

abbrev pub truth_then : Rest Bool → Rest Value
truth_then k = scalar_then (λ x. k (is_true x))

abbrev pub in_type_of : IntegerType → Scalar → Option Scalar
in_type_of t x = in_type_value t x

abbrev pub call_value_then : Ending → Rest Value → State → Outcome Ending
call_value_then falls k = k nothing
call_value_then (returns v) k = k v
call_value_then other k = undefined

-- a full expression ends, and then
abbrev pub end_full_then : List ℕ → (State → Outcome Ending) → State → Outcome Ending
end_full_then outer k s = k (without_temporaries outer s)

abbrev pub full_then : {A : Type 0} → (Rest A → State → Outcome Ending) → Rest A → State → Outcome Ending
full_then piece k s = piece (λ x. end_full_then s.temporaries (k x)) (record s { temporaries = [] })

-- what operations give in a memory, with the types of each struct's members
module _ (structs : List (List PlainType)) where
  abbrev pub operated_in : Memory → Operation → Scalar → Scalar → Option Scalar
  operated_in m op x y = operated_value structs m op x y

  abbrev pub changed_in : Memory → Change → Scalar → Scalar → Option Scalar
  changed_in m change x y = changed_value structs m change x y

  abbrev pub operated_then : Operation → Scalar → Scalar → Rest Scalar → State → Outcome Ending
  operated_then op x y k s = given_then (operated_in s.memory op x y) k s

  abbrev pub changed_then : Change → Scalar → Scalar → Rest Scalar → State → Outcome Ending
  changed_then change x y k s = given_then (changed_in s.memory change x y) k s

  abbrev pub read_then : Pointer → Rest Value → State → Outcome Ending
  read_then q k s = given_then (value_at structs s.memory q) k s

  abbrev pub write_then : Pointer → Value → (State → Outcome Ending) → State → Outcome Ending
  write_then q v k s = given_then (written_at structs s.memory q v) (λ m t. k (record t { memory = m })) s

  abbrev pub fill_then : ℕ → PlainType → List PlainPart → (State → Outcome Ending) → State → Outcome Ending
  fill_then i t parts k s =
      k (record s { memory = with_object s.memory i (record (s.memory.object i) { cells = cells_filled parts (zeros structs t) (s.memory.object i).cells }) })

abbrev pub member_then : Pointer → ℕ → Rest Pointer → State → Outcome Ending
member_then q i k s = given_then (member_at s.memory q i) k s

abbrev pub make_then : PlainType → Rest ℕ → State → Outcome Ending
make_then t k s = k s.memory.made (record s { memory = with_new s.memory (fresh t unwritten) })

abbrev pub end_object_then : ℕ → (State → Outcome Ending) → State → Outcome Ending
end_object_then i k s = k (record s { memory = with_ended s.memory i })

abbrev pub temporary_then : List (List PlainType) → PlainType → Value → Rest Pointer → State → Outcome Ending
temporary_then structs t v k =
    make_then t (λ i. write_then structs (at i []) v (λ s. k (at i []) (record s { temporaries = i ∷ s.temporaries })))

module _ (p : PlainProgram) (later : Job → Rest Ending → State → Outcome Ending) where
  abbrev pub called_then : Option PlainFunction → ℕ → List Value → Rest Value → State → Outcome Ending
  called_then (Some (defined types body)) f arguments k = later (body_of f arguments) (λ ending. call_value_then ending k)
  called_then (Some (built_in b)) f arguments k = called_built_in p b arguments >>= k
  called_then None f arguments k = undefined

  module _ (frame : Frame) where
    abbrev mutual
      pub value_then : PlainExpression → Rest Value → State → Outcome Ending
      value_then (constant z) k = k (scalar (number z))
      value_then null_constant k = k (scalar (pointer null))
      value_then (read place) k = place_then place (λ q. read_then p.structs q k)
      value_then (address place) k = place_then place (λ q. k (scalar (pointer q)))
      value_then (first_element place) k = place_then place (λ q. given_then (first_at q) (λ first. k (scalar (pointer first))))
      value_then (convert t e) k = value_then e (scalar_then (λ x. given_then (in_type_of t x) (λ v. k (scalar v))))
      value_then (binary op a b) k =
          value_then a (scalar_then (λ x. value_then b (scalar_then (λ y. operated_then p.structs op x y (λ v. k (scalar v))))))
      value_then (logical_not e) k = value_then e (truth_then (λ holds. k (scalar (truth_number (not holds)))))
      value_then (logical_and a b) k =
          value_then a (truth_then (λ first.
          if first then value_then b (truth_then (λ holds. k (scalar (truth_number holds)))) else k (scalar (truth_number false))))
      value_then (logical_or a b) k =
          value_then a (truth_then (λ first.
          if first then k (scalar (truth_number true)) else value_then b (truth_then (λ holds. k (scalar (truth_number holds))))))
      value_then (choose c a b) k = value_then c (truth_then (λ holds. if holds then value_then a k else value_then b k))
      value_then (assign place e) k = place_then place (λ q. value_then e (used_then (λ v. write_then p.structs q v (k v))))
      value_then (update change place e) k =
          place_then place (λ q. value_then e (scalar_then (λ y.
          read_then p.structs q (scalar_then (λ x. changed_then p.structs change x y (λ v. write_then p.structs q (scalar v) (k (scalar v))))))))
      value_then (update_after change place e) k =
          place_then place (λ q. value_then e (scalar_then (λ y.
          read_then p.structs q (scalar_then (λ x. changed_then p.structs change x y (λ v. write_then p.structs q (scalar v) (k (scalar x))))))))
      value_then (call f arguments) k = values_then arguments (λ vs. called_then (slice_get p.functions f) f vs k)
      value_then (discard e) k = value_then e (λ v. k nothing)

      pub place_then : PlainPlace → Rest Pointer → State → Outcome Ending
      place_then (slot i) k = given_then (option_map (λ object. at object []) (frame.objects i)) k
      place_then (global i) k = k (at i [])
      place_then (literal i) k = k (at (length p.globals + i) [])
      place_then (target e) k = value_then e (pointer_then k)
      place_then (member place i) k = place_then place (λ q. member_then q i k)
      place_then (temporary t e) k = value_then e (used_then (λ v. temporary_then p.structs t v k))

      pub values_then : PlainArguments → Rest (List Value) → State → Outcome Ending
      values_then no_argument k = k []
      values_then (argument e rest) k = value_then e (used_then (λ v. values_then rest (λ vs. k (v ∷ vs))))

    abbrev pub write_parts_then : ℕ → List PlainPart → (State → Outcome Ending) → State → Outcome Ending
    write_parts_then object [] k = k
    write_parts_then object (x ∷ rest) k =
        full_then (λ r. value_then x.value (used_then r))
        (λ v. write_then p.structs (at object x.path) v (write_parts_then object rest k))

    abbrev pub initialise_then : ℕ → PlainType → List PlainPart → (State → Outcome Ending) → State → Outcome Ending
    initialise_then object t [] k = k
    initialise_then object t (x ∷ rest) k =
        write_parts_then object (x ∷ rest) (fill_then p.structs object t (x ∷ rest) k)

  abbrev pub asks_then : Frame → PlainExpression → PlainExpression → PlainStatement → Rest Ending → State → Outcome Ending
  asks_then frame c step body k =
      full_then (λ r. value_then frame c (truth_then r)) (λ holds. if holds then later (turn frame c step body) k else k falls)

  abbrev pub then_item_then : Ending → (State → Outcome Ending) → Rest Ending → State → Outcome Ending
  then_item_then falls next k = next
  then_item_then other next k = k other

  abbrev mutual
    pub ending_then : Frame → PlainStatement → Rest Ending → State → Outcome Ending
    ending_then frame (block items) k = items_then frame items k
    ending_then frame (evaluate e) k = full_then (value_then frame e) (λ v. k falls)
    ending_then frame (selection c a b) k =
        full_then (λ r. value_then frame c (truth_then r)) (λ holds. if holds then ending_then frame a k else ending_then frame b k)
    ending_then frame (loop asks_first c step body) k =
        if asks_first then asks_then frame c step body k else later (turn frame c step body) k
    ending_then frame break_loop k = k breaks
    ending_then frame continue_loop k = k continues
    ending_then frame return_nothing k = k (returns nothing)
    ending_then frame (return_value e) k = full_then (λ r. value_then frame e (used_then r)) (λ v. k (returns v))

    pub items_then : Frame → PlainItems → Rest Ending → State → Outcome Ending
    items_then frame no_item k = k falls
    items_then frame (local i parts rest) k =
        given_then (slice_get frame.types i) (λ t. make_then t (λ object.
        initialise_then (with_slot frame i object) object t parts
        (items_then (with_slot frame i object) rest (λ ending. end_object_then object (k ending)))))
    items_then frame (statement_item s rest) k =
        ending_then frame s (λ ending. then_item_then ending (items_then frame rest k) k)

  abbrev pub enter_then : Frame → ℕ → List Value → PlainItems → Rest Ending → State → Outcome Ending
  enter_then frame i [] body k = items_then frame body k
  enter_then frame i (v ∷ rest) body k =
      given_then (slice_get frame.types i) (λ t. make_then t (λ object. write_then p.structs (at object []) v (
      enter_then (with_slot frame i object) (suc i) rest body (λ ending. end_object_then object (k ending)))))

  abbrev pub enter_function_then : Option PlainFunction → List Value → Rest Ending → State → Outcome Ending
  enter_function_then (Some (defined types body)) arguments k = enter_then (record { types = types; objects = λ i. None }) 0 arguments body k
  enter_function_then other arguments k = undefined

  abbrev pub after_turn_then : Ending → (State → Outcome Ending) → Rest Ending → State → Outcome Ending
  after_turn_then falls next k = next
  after_turn_then continues next k = next
  after_turn_then breaks next k = k falls
  after_turn_then (returns v) next k = k (returns v)

  abbrev pub job_body_then : Job → Rest Ending → State → Outcome Ending
  job_body_then (body_of f arguments) k = enter_function_then (slice_get p.functions f) arguments k
  job_body_then (turn frame c step body) k =
      ending_then frame body (λ ending. after_turn_then ending (full_then (value_then frame step) (λ v. asks_then frame c step body k)) k)

abbrev pub job_then : PlainProgram → ℕ → Job → Rest Ending → State → Outcome Ending
job_then p zero job k s = Stops []
job_then p (suc n) job k s = job_body_then p (job_then p n) job k s
