-- A larger bound, over expressions, statements and what costs one of it.
use Rattle.std.proofs.Common.{◌≡◌, ℕ, zero, suc, ◌≤◌, Bool, true, false, List, [], ◌∷◌, ◌++◌, refl, sym, ◌∙◌, ap, subst, cond, Option, Some, None, arith, append_assoc, append-nil, slice_get}
use Rattle.core_meaning.specs.Memory.{unwritten}
use Rattle.core_meaning.specs.Values.{at, number, pointer, Value, nothing, scalar, whole}
use Rattle.core_meaning.specs.Run.{Answer, Ended, Running, Undefined, first_state, answer_at, answer_of, run}
use Rattle.core_meaning.specs.Growth.{output_of, Extends, GoesOn, RunsGrow, outcome_output, OutcomeGoesOn, PiecesGrow, IsDefined, IsReachedBy, ReachingIsTransitive, LargerBoundReaches}
use Rattle.c_types.specs.Types.{PlainType}
use Rattle.core_meaning.specs.Program.{PlainExpression, constant, null_constant, read, address, first_element, convert, binary, logical_not, logical_and, logical_or, choose, assign, update, update_after, call, discard, PlainPlace, slot, global, literal, target, member, temporary, PlainArguments, no_argument, argument, PlainPart, PlainStatement, block, evaluate, selection, loop, break_loop, continue_loop, return_nothing, return_value, PlainItems, no_item, local, statement_item, PlainFunction, defined, built_in, PlainProgram}
use Rattle.core_meaning.specs.Outcomes.{State, Outcome, Comes, Exits, Stops, Fails, Piece, after, followed_by, ◌>>=◌, given, full}
use Rattle.core_meaning.specs.Meaning.{Ending, falls, breaks, continues, returns, Frame, make, write_to, end_object, with_slot, Job, body_of, turn, called_function, value_of, place_of, values_of, write_parts, initialise, asks, then_item, ending_of, items_ending, enter, enter_function, after_turn, job_ending, meaning}

pub later_same : {A : Type 0} (o : Outcome A) → OutcomeGoesOn o o
later_same (Comes x s out) = refl
later_same (Exits status out) = refl
later_same (Fails out) = refl
later_same (Stops out) = ([], sym (append-nil out))

after_output : {A : Type 0} (before : List ℕ) (o : Outcome A) → outcome_output (after before o) ≡ before ++ outcome_output o
after_output before (Comes x s out) = refl
after_output before (Exits status out) = refl
after_output before (Fails out) = refl
after_output before (Stops out) = refl

later_after : {A : Type 0} (before : List ℕ) (a b : Outcome A) → OutcomeGoesOn a b → OutcomeGoesOn (after before a) (after before b)
later_after before (Comes x s out) b h = ap (after before) h
later_after before (Exits status out) b h = ap (after before) h
later_after before (Fails out) b h = ap (after before) h
later_after before (Stops out) b h =
    (h.0, after_output before b ∙ (ap (λ o. before ++ o) h.1 ∙ sym (append_assoc before out h.0)))

-- what follows only lengthens the output
followed_output : {A B : Type 0} (o : Outcome A) (next : A → State → Outcome B) → (more : List ℕ) × (outcome_output (followed_by o next) ≡ outcome_output o ++ more)
followed_output (Comes x s out) next = (outcome_output (next x s), after_output out (next x s))
followed_output (Exits status out) next = ([], sym (append-nil out))
followed_output (Fails out) next = ([], sym (append-nil out))
followed_output (Stops out) next = ([], sym (append-nil out))

later_followed : {A B : Type 0} (a b : Outcome A) (f g : A → State → Outcome B) → OutcomeGoesOn a b → ((x : A) (s : State) → OutcomeGoesOn (f x s) (g x s)) → OutcomeGoesOn (followed_by a f) (followed_by b g)
later_followed (Comes x s out) b f g h k =
    subst (λ o. OutcomeGoesOn (after out (f x s)) (followed_by o g)) (sym h) (later_after out (f x s) (g x s) (k x s))
later_followed (Exits status out) b f g h k = subst (λ o. OutcomeGoesOn (Exits status out) (followed_by o g)) (sym h) refl
later_followed (Fails out) b f g h k = subst (λ o. OutcomeGoesOn (Fails out) (followed_by o g)) (sym h) refl
later_followed (Stops out) b f g h k =
    let more = followed_output b g in
    (h.0 ++ more.0, more.1 ∙ (ap (λ o. o ++ more.0) h.1 ∙ append_assoc out h.0 more.0))

-- the same of pieces, in each state
pub record Grows {A : Type 0} (f g : State → Outcome A) : Type 0 where
  pub in_state : (s : State) → OutcomeGoesOn (f s) (g s)

grows_same : {A : Type 0} (f : State → Outcome A) → Grows f f
grows_same f = record { in_state = λ s. later_same (f s) }

grows_then : {A B : Type 0} {f g : State → Outcome A} {h k : A → State → Outcome B} → Grows f g → ((x : A) → Grows (h x) (k x)) → Grows (f >>= h) (g >>= k)
grows_then {f = f} {g = g} {h = h} {k = k} first next =
    record { in_state = λ s. later_followed (f s) (g s) h k (first.in_state s) (λ x t. (next x).in_state t) }

-- the same piece follows
grows_before : {A B : Type 0} {f g : State → Outcome A} (h : A → State → Outcome B) → Grows f g → Grows (f >>= h) (g >>= h)
grows_before h first = grows_then first (λ x. grows_same (h x))

-- the same piece comes first
grows_next : {A B : Type 0} (f : State → Outcome A) {h k : A → State → Outcome B} → ((x : A) → Grows (h x) (k x)) → Grows (f >>= h) (f >>= k)
grows_next f next = grows_then (grows_same f) next

grows_choice : {A : Type 0} {f g h k : State → Outcome A} (c : Bool) → Grows f g → Grows h k → Grows (cond c f h) (cond c g k)
grows_choice true first second = first
grows_choice false first second = second

grows_full : {A : Type 0} {f g : State → Outcome A} → Grows f g → Grows (full f) (full g)
grows_full {f = f} {g = g} first =
    record { in_state = λ s. later_followed (f (record s { temporaries = [] })) (g (record s { temporaries = [] })) _ _ (first.in_state (record s { temporaries = [] })) (λ x t. refl) }

module _ (p : PlainProgram) (later later' : Job → Piece Ending) (grows : (job : Job) → Grows (later job) (later' job)) where
  called_function_grows : (o : Option PlainFunction) (f : ℕ) (vs : List Value) → Grows (called_function p later o f vs) (called_function p later' o f vs)
  called_function_grows None f vs = grows_same _
  called_function_grows (Some (built_in b)) f vs = grows_same _
  called_function_grows (Some (defined types body)) f vs = grows_before _ (grows (body_of f vs))

  module _ (frame : Frame) where
    mutual
      value_grows : (e : PlainExpression) → Grows (value_of p later frame e) (value_of p later' frame e)
      value_grows (constant z) = grows_same _
      value_grows null_constant = grows_same _
      value_grows (read place) = grows_before _ (place_grows place)
      value_grows (address place) = grows_before _ (place_grows place)
      value_grows (first_element place) = grows_before _ (place_grows place)
      value_grows (convert t e) = grows_before _ (grows_before _ (value_grows e))
      value_grows (binary op a b) = grows_then (grows_before _ (value_grows a)) (λ x. grows_before _ (grows_before _ (value_grows b)))
      value_grows (logical_not e) = grows_before _ (grows_before _ (grows_before _ (value_grows e)))
      value_grows (logical_and a b) =
          grows_then (grows_before _ (grows_before _ (value_grows a)))
          (λ x. grows_before _ (grows_choice x (grows_before _ (grows_before _ (value_grows b))) (grows_same _)))
      value_grows (logical_or a b) =
          grows_then (grows_before _ (grows_before _ (value_grows a)))
          (λ x. grows_before _ (grows_choice x (grows_same _) (grows_before _ (grows_before _ (value_grows b)))))
      value_grows (choose c a b) =
          grows_then (grows_before _ (grows_before _ (value_grows c))) (λ x. grows_choice x (value_grows a) (value_grows b))
      value_grows (assign place e) = grows_then (place_grows place) (λ q. grows_before _ (grows_before _ (value_grows e)))
      value_grows (update change place e) = grows_then (place_grows place) (λ q. grows_before _ (grows_before _ (value_grows e)))
      value_grows (update_after change place e) = grows_then (place_grows place) (λ q. grows_before _ (grows_before _ (value_grows e)))
      value_grows (call f arguments) = grows_then (values_grow arguments) (λ vs. called_function_grows _ f vs)
      value_grows (discard e) = grows_before _ (value_grows e)

      place_grows : (place : PlainPlace) → Grows (place_of p later frame place) (place_of p later' frame place)
      place_grows (slot k) = grows_same _
      place_grows (global k) = grows_same _
      place_grows (literal k) = grows_same _
      place_grows (target e) = grows_before _ (value_grows e)
      place_grows (member place k) = grows_before _ (place_grows place)
      place_grows (temporary t e) = grows_before _ (grows_before _ (value_grows e))

      values_grow : (arguments : PlainArguments) → Grows (values_of p later frame arguments) (values_of p later' frame arguments)
      values_grow no_argument = grows_same _
      values_grow (argument e rest) = grows_then (grows_before _ (value_grows e)) (λ v. grows_before _ (values_grow rest))

    write_parts_grow : (object : ℕ) (parts : List PlainPart) → Grows (write_parts p later frame object parts) (write_parts p later' frame object parts)
    write_parts_grow object [] = grows_same _
    write_parts_grow object (x ∷ rest) =
        grows_then (grows_full (grows_before _ (value_grows x.value))) (λ v. grows_next (write_to p (at object x.path) v) (λ written. write_parts_grow object rest))

    initialise_grows : (object : ℕ) (t : PlainType) (parts : List PlainPart) → Grows (initialise p later frame object t parts) (initialise p later' frame object t parts)
    initialise_grows object t [] = grows_same _
    initialise_grows object t (x ∷ rest) = grows_before _ (write_parts_grow object (x ∷ rest))

  asks_grows : (frame : Frame) (c step : PlainExpression) (body : PlainStatement) → Grows (asks p later frame c step body) (asks p later' frame c step body)
  asks_grows frame c step body =
      grows_then (grows_full (grows_before _ (grows_before _ (value_grows frame c))))
      (λ holds. grows_choice holds (grows (turn frame c step body)) (grows_same _))

  then_item_grows : (ending : Ending) {f g : Piece Ending} → Grows f g → Grows (then_item p later ending f) (then_item p later' ending g)
  then_item_grows falls next = next
  then_item_grows breaks next = grows_same _
  then_item_grows continues next = grows_same _
  then_item_grows (returns v) next = grows_same _

  mutual
    ending_grows : (frame : Frame) (s : PlainStatement) → Grows (ending_of p later frame s) (ending_of p later' frame s)
    ending_grows frame (block items) = items_grow frame items
    ending_grows frame (evaluate e) = grows_before _ (grows_full (value_grows frame e))
    ending_grows frame (selection c a b) =
        grows_then (grows_full (grows_before _ (grows_before _ (value_grows frame c))))
        (λ holds. grows_choice holds (ending_grows frame a) (ending_grows frame b))
    ending_grows frame (loop asks_first c step body) =
        grows_choice asks_first (asks_grows frame c step body) (grows (turn frame c step body))
    ending_grows frame break_loop = grows_same _
    ending_grows frame continue_loop = grows_same _
    ending_grows frame return_nothing = grows_same _
    ending_grows frame (return_value e) = grows_before _ (grows_full (grows_before _ (value_grows frame e)))

    items_grow : (frame : Frame) (items : PlainItems) → Grows (items_ending p later frame items) (items_ending p later' frame items)
    items_grow frame no_item = grows_same _
    items_grow frame (local k parts rest) =
        grows_next (given (slice_get frame.types k)) (λ t. grows_next (make p t unwritten) (λ object.
        grows_then (initialise_grows (with_slot frame k object) object t parts) (λ done.
        grows_before (end_object p object) (items_grow (with_slot frame k object) rest))))
    items_grow frame (statement_item s rest) =
        grows_then (ending_grows frame s) (λ ending. then_item_grows ending (items_grow frame rest))

  enter_grows : (frame : Frame) (k : ℕ) (vs : List Value) (body : PlainItems) → Grows (enter p later frame k vs body) (enter p later' frame k vs body)
  enter_grows frame k [] body = items_grow frame body
  enter_grows frame k (v ∷ rest) body =
      grows_next (given (slice_get frame.types k)) (λ t. grows_next (make p t unwritten) (λ object.
      grows_next (write_to p (at object []) v) (λ written. grows_before (end_object p object) (enter_grows (with_slot frame k object) (suc k) rest body))))

  enter_function_grows : (o : Option PlainFunction) (vs : List Value) → Grows (enter_function p later o vs) (enter_function p later' o vs)
  enter_function_grows None vs = grows_same _
  enter_function_grows (Some (built_in b)) vs = grows_same _
  enter_function_grows (Some (defined types body)) vs = enter_grows (record { types = types; objects = λ k. None }) 0 vs body

  after_turn_grows : (ending : Ending) {f g : Piece Ending} → Grows f g → Grows (after_turn p later ending f) (after_turn p later' ending g)
  after_turn_grows falls next = next
  after_turn_grows continues next = next
  after_turn_grows breaks next = grows_same _
  after_turn_grows (returns v) next = grows_same _

  job_grows : (job : Job) → Grows (job_ending p later job) (job_ending p later' job)
  job_grows (body_of f vs) = enter_function_grows (slice_get p.functions f) vs
  job_grows (turn frame c step body) =
      grows_then (ending_grows frame body)
      (λ ending. after_turn_grows ending (grows_then (grows_full (value_grows frame step)) (λ v. asks_grows frame c step body)))

meaning_grows : (p : PlainProgram) (m n : ℕ) → m ≤ n → (job : Job) → Grows (meaning p m job) (meaning p n job)
meaning_grows p zero n less job = record { in_state = λ s. (outcome_output (meaning p n job s), refl) }
meaning_grows p (suc m) zero less job = absurd (omega arith)
meaning_grows p (suc m) (suc n) less job =
    let lower : m ≤ n = omega arith in
    job_grows p (meaning p m) (meaning p n) (meaning_grows p m n lower) job

pub pieces_grow_lem : PiecesGrow
pieces_grow_lem p m n less =
    let grows = meaning_grows p m n less in
    record {
      values = λ frame e. (value_grows p (meaning p m) (meaning p n) grows frame e).in_state;
      places = λ frame place. (place_grows p (meaning p m) (meaning p n) grows frame place).in_state;
      arguments = λ frame es. (values_grow p (meaning p m) (meaning p n) grows frame es).in_state;
      statements = λ frame s. (ending_grows p (meaning p m) (meaning p n) grows frame s).in_state;
      items = λ frame items. (items_grow p (meaning p m) (meaning p n) grows frame items).in_state;
      jobs = λ job. (grows job).in_state;
    }

-- ---- answers

answer_output : (ending : Ending) (out : List ℕ) → output_of (answer_at ending out) ≡ out
answer_output falls out = refl
answer_output breaks out = refl
answer_output continues out = refl
answer_output (returns nothing) out = refl
answer_output (returns (whole cells)) out = refl
answer_output (returns (scalar (number z))) out = refl
answer_output (returns (scalar (pointer q))) out = refl

answer_of_output : (o : Outcome Ending) → output_of (answer_of o) ≡ outcome_output o
answer_of_output (Comes ending s out) = answer_output ending out
answer_of_output (Exits status out) = refl
answer_of_output (Stops out) = refl
answer_of_output (Fails out) = refl

same_goes_on : (a : Answer) → GoesOn a a
same_goes_on (Ended out status) = refl
same_goes_on (Undefined out) = refl
same_goes_on (Running out) = ([], sym (append-nil out))

goes_on : (a b : Outcome Ending) → OutcomeGoesOn a b → GoesOn (answer_of a) (answer_of b)
goes_on (Comes ending s out) b h =
    subst (λ o. GoesOn (answer_at ending out) (answer_of o)) (sym h) (same_goes_on (answer_at ending out))
goes_on (Exits status out) b h = ap answer_of h
goes_on (Fails out) b h = ap answer_of h
goes_on (Stops out) b h = (h.0, answer_of_output b ∙ h.1)

pub runs_grow_lem : RunsGrow
runs_grow_lem p input m n less =
    goes_on _ (job_ending p (meaning p n) (body_of p.main []) (first_state p input))
    ((job_grows p (meaning p m) (meaning p n) (meaning_grows p m n less) (body_of p.main [])).in_state (first_state p input))

-- ---- reaching

extends_on : (a b c : List ℕ) → Extends a b → Extends b c → Extends a c
extends_on a b c h k = (h.0 ++ k.0, k.1 ∙ (ap (λ o. o ++ k.0) h.1 ∙ append_assoc a h.0 k.0))

reached_output : (b c : Answer) → IsReachedBy b c → Extends (output_of b) (output_of c)
reached_output (Ended out status) c h = ([], ap output_of h ∙ sym (append-nil out))
reached_output (Running out) c h = h.1
reached_output (Undefined out) c h = absurd h

defined_on : (b c : Answer) → IsReachedBy b c → IsDefined c
defined_on (Ended out status) c h = subst IsDefined (sym h) tt
defined_on (Running out) c h = h.0
defined_on (Undefined out) c h = absurd h

pub reaching_is_transitive_lem : ReachingIsTransitive
reaching_is_transitive_lem (Ended out status) b c h k = subst (λ a. IsReachedBy a c) h k
reaching_is_transitive_lem (Running out) b c h k =
    (defined_on b c k, extends_on out (output_of b) (output_of c) h.1 (reached_output b c k))
reaching_is_transitive_lem (Undefined out) b c h k = absurd h

goes_on_reaches : (a b : Answer) → IsDefined b → GoesOn a b → IsReachedBy a b
goes_on_reaches (Ended out status) b d h = h
goes_on_reaches (Running out) b d h = (d, h)
goes_on_reaches (Undefined out) b d h = subst IsDefined h d

pub larger_bound_reaches_lem : LargerBoundReaches
larger_bound_reaches_lem p input m n less d = goes_on_reaches (run p input m) (run p input n) d (runs_grow_lem p input m n less)
