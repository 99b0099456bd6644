-- The meaning with what follows it as an argument is the meaning, and then what follows it.
use Rattle.std.proofs.Common.{◌≡◌, ℕ, zero, suc, Bool, true, false, List, [], ◌∷◌, ◌++◌, refl, sym, ◌∙◌, ap, cond, Option, Some, None, append_assoc, append-nil, slice_get, length, option_map, option_and_then, not, ◌+◌, neg_ℤ}
use Rattle.core_meaning.specs.Program.{type_of, PlainExpression, constant, null_constant, read, address, first_element, convert, binary, logical_not, logical_and, logical_or, choose, assign, update, update_after, call, discard, PlainPlace, slot, global, literal, target, member, temporary, PlainArguments, no_argument, argument, PlainPart, PlainStatement, block, evaluate, selection, loop, break_loop, continue_loop, return_nothing, return_value, PlainItems, no_item, local, statement_item, PlainFunction, defined, built_in, PlainProgram}
use Rattle.core_meaning.specs.Values.{Pointer, null, at, Scalar, number, pointer, Value, nothing, scalar, whole, is_true, truth_number}
use Rattle.core_meaning.specs.Memory.{Memory, unwritten, value_at, written_at, moved, distance, compared, first_at, member_at}
use Rattle.core_meaning.specs.Outcomes.{State, Outcome, Comes, Exits, Stops, Fails, Piece, after, followed_by, ◌>>=◌, give, given, full, memory_now, without_temporaries}
use Rattle.core_meaning.specs.Meaning.{computed, as_value, as_scalar, as_pointer, used, scalar_from, pointer_from, truth_from, scalar_in_type, read_from, write_to, make, end_object, operated, changed, call_value, called_built_in, temporary_with, fill_missing, Ending, falls, breaks, continues, returns, Frame, with_slot, Job, body_of, turn, called_function, value_of, place_of, values_of, write_parts, initialise, asks, then_item, ending_of, items_ending, enter, enter_function, after_turn, job_ending, meaning}
use Rattle.c_types.specs.Types.{PlainType}
use Rattle.c_types.specs.Integers.{converted}
use Rattle.core_meaning.specs.declared.integers.IntegerType.{IntegerType}
use Rattle.core_meaning.specs.declared.expressions.Operation.{Operation}
use Rattle.core_meaning.specs.declared.expressions.Operation.TheVariants as operation
use Rattle.core_meaning.specs.declared.expressions.Change.TheVariants as change
use Rattle.core_meaning.specs.declared.expressions.Change.{Change}
use Rattle.interp_actions.specs.Continued.{operated_in, given_then, in_type_of, call_value_then, operated_then, changed_then, read_then, write_then, fill_then, member_then, make_then, end_object_then, temporary_then, used_then, scalar_then, pointer_then, truth_then, full_then, called_then, value_then, place_then, values_then, write_parts_then, initialise_then, asks_then, then_item_then, ending_then, items_then, enter_then, enter_function_then, after_turn_then, job_body_then, job_then}

pub after_nothing : {A : Type 0} (o : Outcome A) → after [] o ≡ o
after_nothing (Comes x s out) = refl
after_nothing (Exits status out) = refl
after_nothing (Stops out) = refl
after_nothing (Fails out) = refl

pub after_after : {A : Type 0} (a b : List ℕ) (o : Outcome A) → after a (after b o) ≡ after (a ++ b) o
after_after a b (Comes x s out) = ap (λ o. Comes x s o) (sym (append_assoc a b out))
after_after a b (Exits status out) = ap (λ o. Exits status o) (sym (append_assoc a b out))
after_after a b (Stops out) = ap Stops (sym (append_assoc a b out))
after_after a b (Fails out) = ap Fails (sym (append_assoc a b out))

after_followed : {A B : Type 0} (before : List ℕ) (o : Outcome A) (next : A → State → Outcome B) → followed_by (after before o) next ≡ after before (followed_by o next)
after_followed before (Comes x s out) next = sym (after_after before out (next x s))
after_followed before (Exits status out) next = refl
after_followed before (Stops out) next = refl
after_followed before (Fails out) next = refl

followed_followed : {A B C : Type 0} (o : Outcome A) (f : A → State → Outcome B) (g : B → State → Outcome C) → followed_by (followed_by o f) g ≡ followed_by o (λ x s. followed_by (f x s) g)
followed_followed (Comes x s out) f g = after_followed out (f x s) g
followed_followed (Exits status out) f g = refl
followed_followed (Stops out) f g = refl
followed_followed (Fails out) f g = refl

followed_same : {A B : Type 0} (o : Outcome A) (f g : A → State → Outcome B) → ((x : A) (s : State) → f x s ≡ g x s) → followed_by o f ≡ followed_by o g
followed_same (Comes x s out) f g same = ap (after out) (same x s)
followed_same (Exits status out) f g same = refl
followed_same (Stops out) f g same = refl
followed_same (Fails out) f g same = refl

-- with what follows it as an argument, the second is the first
pub record Continues {A : Type 0} (f : State → Outcome A) (g : (A → State → Outcome Ending) → State → Outcome Ending) : Type 0 where
  pub same : (k : A → State → Outcome Ending) (s : State) → g k s ≡ followed_by (f s) k

-- a piece, and then what follows
continues_piece : {A : Type 0} (f : State → Outcome A) → Continues f (λ k. f >>= k)
continues_piece f = record { same = λ k s. refl }

continues_give : {A : Type 0} (x : A) → Continues (give x) (λ k. k x)
continues_give x = record { same = λ k s. sym (after_nothing (k x s)) }

continues_then : {A B : Type 0} {f : State → Outcome A} {h : A → State → Outcome B} {g : (A → State → Outcome Ending) → State → Outcome Ending} {i : A → (B → State → Outcome Ending) → State → Outcome Ending} → Continues f g → ((x : A) → Continues (h x) (i x)) → Continues (f >>= h) (λ k. g (λ x. i x k))
continues_then {f = f} {h = h} {g = g} {i = i} first next = record {
  same = λ k s.
      first.same (λ x. i x k) s
      ∙ (followed_same (f s) (λ x. i x k) (λ x t. followed_by (h x t) k) (λ x t. (next x).same k t)
      ∙ sym (followed_followed (f s) h k));
}

continues_before : {A B : Type 0} {f : State → Outcome A} {g : (A → State → Outcome Ending) → State → Outcome Ending} (h : A → State → Outcome B) → Continues f g → Continues (f >>= h) (λ k. g (λ x s. followed_by (h x s) k))
continues_before h first = continues_then first (λ x. continues_piece (h x))

-- and then a result is made of the result
continues_map : {A B : Type 0} {f : State → Outcome A} {g : (A → State → Outcome Ending) → State → Outcome Ending} (h : A → B) → Continues f g → Continues (f >>= (λ x. give (h x))) (λ k. g (λ x. k (h x)))
continues_map h first = continues_then first (λ x. continues_give (h x))

continues_choice : {A : Type 0} {f h : State → Outcome A} {g i : (A → State → Outcome Ending) → State → Outcome Ending} (c : Bool) → Continues f g → Continues h i → Continues (cond c f h) (λ k. cond c (g k) (i k))
continues_choice true first second = record { same = λ k s. first.same k s }
continues_choice false first second = record { same = λ k s. second.same k s }

continues_full : {A : Type 0} {f : State → Outcome A} {g : (A → State → Outcome Ending) → State → Outcome Ending} → Continues f g → Continues (full f) (full_then g)
continues_full {f = f} {g = g} first = record {
  same = λ k s.
      first.same (λ x t. k x (without_temporaries s.temporaries t)) (record s { temporaries = [] })
      ∙ (followed_same (f (record s { temporaries = [] })) (λ x t. k x (without_temporaries s.temporaries t)) (λ x t. followed_by (Comes x (without_temporaries s.temporaries t) []) k) (λ x t. sym (after_nothing (k x (without_temporaries s.temporaries t))))
      ∙ sym (followed_followed (f (record s { temporaries = [] })) (λ x t. Comes x (without_temporaries s.temporaries t) []) k));
}

-- ---- what pieces are made of

as_value_continues : (v : Value) → Continues (as_value v) (λ k. used_then k v)
as_value_continues nothing = record { same = λ k s. refl }
as_value_continues (scalar v) = continues_give (scalar v)
as_value_continues (whole cells) = continues_give (whole cells)

as_scalar_continues : (v : Value) → Continues (as_scalar v) (λ k. scalar_then k v)
as_scalar_continues nothing = record { same = λ k s. refl }
as_scalar_continues (scalar v) = continues_give v
as_scalar_continues (whole cells) = record { same = λ k s. refl }

as_pointer_continues : (v : Value) → Continues (as_pointer v) (λ k. pointer_then k v)
as_pointer_continues nothing = record { same = λ k s. refl }
as_pointer_continues (scalar (number z)) = record { same = λ k s. refl }
as_pointer_continues (scalar (pointer q)) = continues_give q
as_pointer_continues (whole cells) = record { same = λ k s. refl }

continues_used : {f : State → Outcome Value} {g : (Value → State → Outcome Ending) → State → Outcome Ending} → Continues f g → Continues (used f) (λ k. g (used_then k))
continues_used first = continues_then first as_value_continues

continues_scalar : {f : State → Outcome Value} {g : (Value → State → Outcome Ending) → State → Outcome Ending} → Continues f g → Continues (scalar_from f) (λ k. g (scalar_then k))
continues_scalar first = continues_then first as_scalar_continues

continues_pointer : {f : State → Outcome Value} {g : (Value → State → Outcome Ending) → State → Outcome Ending} → Continues f g → Continues (pointer_from f) (λ k. g (pointer_then k))
continues_pointer first = continues_then first as_pointer_continues

continues_truth : {f : State → Outcome Value} {g : (Value → State → Outcome Ending) → State → Outcome Ending} → Continues f g → Continues (truth_from f) (λ k. g (truth_then k))
continues_truth first = continues_map is_true (continues_scalar first)

given_continues : {A : Type 0} (o : Option A) → Continues (given o) (given_then o)
given_continues None = record { same = λ k s. refl }
given_continues (Some x) = continues_give x

-- a piece that reads the memory
in_memory : {A : Type 0} (o : Memory → Option A) → Continues (memory_now >>= (λ m. given (o m))) (λ k s. given_then (o s.memory) k s)
in_memory o = record { same = λ k s. (given_continues (o s.memory)).same k s ∙ ap (λ r. followed_by r k) (sym (after_nothing (given (o s.memory) s))) }

in_type_continues : (t : IntegerType) (x : Scalar) → Continues (scalar_in_type t x) (given_then (in_type_of t x))
in_type_continues t (number z) = continues_give (number (converted (type_of t) z))
in_type_continues t (pointer q) = record { same = λ k s. refl }

call_value_continues : (p : PlainProgram) (ending : Ending) → Continues (call_value p ending) (call_value_then ending)
call_value_continues p falls = continues_give nothing
call_value_continues p (returns v) = continues_give v
call_value_continues p breaks = record { same = λ k s. refl }
call_value_continues p continues = record { same = λ k s. refl }

written_given : (o : Option Memory) (v : Value) (k : Value → State → Outcome Ending) (s : State) → given_then o (λ m t. k v (record t { memory = m })) s ≡ followed_by (after [] (followed_by (given o s) (λ now t. Comes v (record t { memory = now }) []))) k
written_given None v k s = refl
written_given (Some m) v k s = sym (after_nothing (k v (record s { memory = m })))

given_twice : {A B : Type 0} (o : Option A) (f : A → Option B) (k : B → State → Outcome Ending) (s : State) → given_then (option_and_then f o) k s ≡ given_then o (λ x. given_then (f x) k) s
given_twice None f k s = refl
given_twice (Some x) f k s = refl

module _ (p : PlainProgram) where
  read_continues : (q : Pointer) → Continues (read_from p q) (read_then p.structs q)
  read_continues q = in_memory (λ m. value_at p.structs m q)

  write_continues : (q : Pointer) (v : Value) → Continues (write_to p q v) (λ k. write_then p.structs q v (k v))
  write_continues q v = record { same = λ k s. written_given (written_at p.structs s.memory q v) v k s }

  make_continues : (t : PlainType) → Continues (make p t unwritten) (make_then t)
  make_continues t = record { same = λ k s. sym (after_nothing (make_then t k s)) }

  end_object_continues : (i : ℕ) (ending : Ending) → Continues (end_object p i ending) (λ k. end_object_then i (k ending))
  end_object_continues i ending = record { same = λ k s. sym (after_nothing (end_object_then i (k ending) s)) }

  fill_continues : (i : ℕ) (t : PlainType) (parts : List PlainPart) → Continues (fill_missing p i t parts) (λ k. fill_then p.structs i t parts (k tt))
  fill_continues i t parts = record { same = λ k s. sym (after_nothing (fill_then p.structs i t parts (k tt) s)) }

  member_continues : (q : Pointer) (i : ℕ) → Continues (memory_now >>= (λ m. given (member_at m q i))) (member_then q i)
  member_continues q i = in_memory (λ m. member_at m q i)

  temporary_continues : (t : PlainType) (v : Value) → Continues (temporary_with p t v) (temporary_then p.structs t v)
  temporary_continues t v =
      continues_then (make_continues t) (λ i. continues_then (write_continues (at i []) v)
      (λ written. record { same = λ k s. sym (after_nothing (k (at i []) (record s { temporaries = i ∷ s.temporaries }))) }))

  operated_continues : (op : Operation) (x y : Scalar) → Continues (operated p op x y) (operated_then p.structs op x y)
  operated_continues (operation.Numbers op t) (number x) (number y) = given_continues (option_map number (computed op (type_of t) x y))
  operated_continues operation.Forward (pointer q) (number y) = in_memory (λ m. option_map pointer (moved p.structs m q y))
  operated_continues operation.ForwardBy (number x) (pointer q) = in_memory (λ m. option_map pointer (moved p.structs m q x))
  operated_continues operation.Back (pointer q) (number y) = in_memory (λ m. option_map pointer (moved p.structs m q (neg_ℤ y)))
  operated_continues operation.Distance (pointer q) (pointer r) = in_memory (λ m. option_map number (distance p.structs m q r))
  operated_continues (operation.Pointers op) (pointer q) (pointer r) = in_memory (λ m. option_map number (compared p.structs op m q r))
  operated_continues other x y = record { same = λ k s. refl }

  changed_continues : (change : Change) (x y : Scalar) → Continues (changed p change x y) (changed_then p.structs change x y)
  changed_continues (change.Numbers op t place_type) x y = record {
    same = λ k s.
        given_twice (operated_in p.structs s.memory (operation.Numbers op t) x y) (in_type_of place_type) k s
        ∙ (continues_then (operated_continues (operation.Numbers op t) x y) (in_type_continues place_type)).same k s;
  }
  changed_continues change.Forward x y = operated_continues operation.Forward x y
  changed_continues change.Back x y = operated_continues operation.Back x y

-- a second piece where a condition holds, and else a result
continues_if : {A : Type 0} {f : State → Outcome Bool} {g : (Bool → State → Outcome Ending) → State → Outcome Ending} (b : Bool) (h : Bool → A) → Continues f g → Continues ((cond b f (give false)) >>= (λ x. give (h x))) (λ k. cond b (g (λ x. k (h x))) (k (h false)))
continues_if true h first = record { same = λ k s. (continues_map h first).same k s }
continues_if false h first = record { same = λ k s. sym (after_nothing (k (h false) s)) }

continues_unless : {A : Type 0} {f : State → Outcome Bool} {g : (Bool → State → Outcome Ending) → State → Outcome Ending} (b : Bool) (h : Bool → A) → Continues f g → Continues ((cond b (give true) f) >>= (λ x. give (h x))) (λ k. cond b (k (h true)) (g (λ x. k (h x))))
continues_unless false h first = record { same = λ k s. (continues_map h first).same k s }
continues_unless true h first = record { same = λ k s. sym (after_nothing (k (h true) s)) }

module _ (p : PlainProgram) (later : Job → State → Outcome Ending) (later_then : Job → (Ending → State → Outcome Ending) → State → Outcome Ending) (jobs : (job : Job) → Continues (later job) (later_then job)) where
  continues_called : (o : Option PlainFunction) (f : ℕ) (vs : List Value) → Continues (called_function p later o f vs) (called_then p later_then o f vs)
  continues_called None f vs = record { same = λ k s. refl }
  continues_called (Some (built_in b)) f vs = continues_piece (called_built_in p b vs)
  continues_called (Some (defined types body)) f vs = continues_then (jobs (body_of f vs)) (call_value_continues p)

  module _ (frame : Frame) where
    mutual
      value_continues : (e : PlainExpression) → Continues (value_of p later frame e) (value_then p later_then frame e)
      value_continues (constant z) = continues_give (scalar (number z))
      value_continues null_constant = continues_give (scalar (pointer null))
      value_continues (read place) = continues_then (place_continues place) (read_continues p)
      value_continues (address place) = continues_map (λ q. scalar (pointer q)) (place_continues place)
      value_continues (first_element place) = continues_then (place_continues place) (λ q. continues_map (λ first. scalar (pointer first)) (given_continues (first_at q)))
      value_continues (convert t e) = continues_then (continues_scalar (value_continues e)) (λ x. continues_map scalar (in_type_continues t x))
      value_continues (binary op a b) =
          continues_then (continues_scalar (value_continues a)) (λ x. continues_then (continues_scalar (value_continues b)) (λ y. continues_map scalar (operated_continues p op x y)))
      value_continues (logical_not e) = continues_map (λ holds. scalar (truth_number (not holds))) (continues_truth (value_continues e))
      value_continues (logical_and a b) = continues_then (continues_truth (value_continues a)) (λ first. continues_if first (λ holds. scalar (truth_number holds)) (continues_truth (value_continues b)))
      value_continues (logical_or a b) = continues_then (continues_truth (value_continues a)) (λ first. continues_unless first (λ holds. scalar (truth_number holds)) (continues_truth (value_continues b)))
      value_continues (choose c a b) =
          continues_then (continues_truth (value_continues c)) (λ holds. continues_choice holds (value_continues a) (value_continues b))
      value_continues (assign place e) =
          continues_then (place_continues place) (λ q. continues_then (continues_used (value_continues e)) (λ v. write_continues p q v))
      value_continues (update change place e) =
          continues_then (place_continues place) (λ q. continues_then (continues_scalar (value_continues e)) (λ y.
          continues_then (continues_scalar (read_continues p q)) (λ x. continues_then (changed_continues p change x y) (λ v. write_continues p q (scalar v)))))
      value_continues (update_after change place e) =
          continues_then (place_continues place) (λ q. continues_then (continues_scalar (value_continues e)) (λ y.
          continues_then (continues_scalar (read_continues p q)) (λ x. continues_then (changed_continues p change x y) (λ v. continues_then (write_continues p q (scalar v)) (λ written. continues_give (scalar x))))))
      value_continues (call f arguments) = continues_then (values_continue arguments) (λ vs. continues_called (slice_get p.functions f) f vs)
      value_continues (discard e) = continues_map (λ v. nothing) (value_continues e)

      place_continues : (place : PlainPlace) → Continues (place_of p later frame place) (place_then p later_then frame place)
      place_continues (slot i) = given_continues (option_map (λ object. at object []) (frame.objects i))
      place_continues (global i) = continues_give (at i [])
      place_continues (literal i) = continues_give (at (length p.globals + i) [])
      place_continues (target e) = continues_pointer (value_continues e)
      place_continues (member place i) = continues_then (place_continues place) (λ q. member_continues p q i)
      place_continues (temporary t e) = continues_then (continues_used (value_continues e)) (λ v. temporary_continues p t v)

      values_continue : (arguments : PlainArguments) → Continues (values_of p later frame arguments) (values_then p later_then frame arguments)
      values_continue no_argument = continues_give []
      values_continue (argument e rest) = continues_then (continues_used (value_continues e)) (λ v. continues_map (λ vs. v ∷ vs) (values_continue rest))

    -- what follows is a piece, and takes nothing of what was before
    write_parts_continue : (object : ℕ) (parts : List PlainPart) → Continues (write_parts p later frame object parts) (λ k. write_parts_then p later_then frame object parts (k tt))
    write_parts_continue object [] = continues_give tt
    write_parts_continue object (x ∷ rest) =
        continues_then (continues_full (continues_used (value_continues x.value)))
        (λ v. continues_then (write_continues p (at object x.path) v) (λ written. write_parts_continue object rest))

    initialise_continues : (object : ℕ) (t : PlainType) (parts : List PlainPart) → Continues (initialise p later frame object t parts) (λ k. initialise_then p later_then frame object t parts (k tt))
    initialise_continues object t [] = continues_give tt
    initialise_continues object t (x ∷ rest) =
        continues_then (write_parts_continue object (x ∷ rest)) (λ written. fill_continues p object t (x ∷ rest))

  asks_continue : (frame : Frame) (c step : PlainExpression) (body : PlainStatement) → Continues (asks p later frame c step body) (asks_then p later_then frame c step body)
  asks_continue frame c step body =
      continues_then (continues_full (continues_truth (value_continues frame c)))
      (λ holds. continues_choice holds (jobs (turn frame c step body)) (continues_give falls))

  then_item_continues : (ending : Ending) {f : Piece Ending} {g : (Ending → State → Outcome Ending) → State → Outcome Ending} → Continues f g → Continues (then_item p later ending f) (λ k. then_item_then p later_then ending (g k) k)
  then_item_continues falls next = record { same = λ k s. next.same k s }
  then_item_continues breaks next = continues_give breaks
  then_item_continues continues next = continues_give continues
  then_item_continues (returns v) next = continues_give (returns v)

  mutual
    ending_continues : (frame : Frame) (s : PlainStatement) → Continues (ending_of p later frame s) (ending_then p later_then frame s)
    ending_continues frame (block items) = items_continue frame items
    ending_continues frame (evaluate e) = continues_map (λ v. falls) (continues_full (value_continues frame e))
    ending_continues frame (selection c a b) =
        continues_then (continues_full (continues_truth (value_continues frame c)))
        (λ holds. continues_choice holds (ending_continues frame a) (ending_continues frame b))
    ending_continues frame (loop asks_first c step body) =
        continues_choice asks_first (asks_continue frame c step body) (jobs (turn frame c step body))
    ending_continues frame break_loop = continues_give breaks
    ending_continues frame continue_loop = continues_give continues
    ending_continues frame return_nothing = continues_give (returns nothing)
    ending_continues frame (return_value e) = continues_map (λ v. returns v) (continues_full (continues_used (value_continues frame e)))

    items_continue : (frame : Frame) (items : PlainItems) → Continues (items_ending p later frame items) (items_then p later_then frame items)
    items_continue frame no_item = continues_give falls
    items_continue frame (local i parts rest) =
        continues_then (given_continues (slice_get frame.types i)) (λ t. continues_then (make_continues p t) (λ object.
        continues_then (initialise_continues (with_slot frame i object) object t parts) (λ done.
        continues_then (items_continue (with_slot frame i object) rest) (λ ending. end_object_continues p object ending))))
    items_continue frame (statement_item s rest) =
        continues_then (ending_continues frame s) (λ ending. then_item_continues ending (items_continue frame rest))

  enter_continues : (frame : Frame) (i : ℕ) (vs : List Value) (body : PlainItems) → Continues (enter p later frame i vs body) (enter_then p later_then frame i vs body)
  enter_continues frame i [] body = items_continue frame body
  enter_continues frame i (v ∷ rest) body =
      continues_then (given_continues (slice_get frame.types i)) (λ t. continues_then (make_continues p t) (λ object.
      continues_then (write_continues p (at object []) v) (λ written.
      continues_then (enter_continues (with_slot frame i object) (suc i) rest body) (λ ending. end_object_continues p object ending))))

  enter_function_continues : (o : Option PlainFunction) (vs : List Value) → Continues (enter_function p later o vs) (enter_function_then p later_then o vs)
  enter_function_continues None vs = record { same = λ k s. refl }
  enter_function_continues (Some (built_in b)) vs = record { same = λ k s. refl }
  enter_function_continues (Some (defined types body)) vs = enter_continues (record { types = types; objects = λ i. None }) 0 vs body

  after_turn_continues : (ending : Ending) {f : Piece Ending} {g : (Ending → State → Outcome Ending) → State → Outcome Ending} → Continues f g → Continues (after_turn p later ending f) (λ k. after_turn_then p later_then ending (g k) k)
  after_turn_continues falls next = record { same = λ k s. next.same k s }
  after_turn_continues continues next = record { same = λ k s. next.same k s }
  after_turn_continues breaks next = continues_give falls
  after_turn_continues (returns v) next = continues_give (returns v)

  job_body_continues : (job : Job) → Continues (job_ending p later job) (job_body_then p later_then job)
  job_body_continues (body_of f vs) = enter_function_continues (slice_get p.functions f) vs
  job_body_continues (turn frame c step body) =
      continues_then (ending_continues frame body)
      (λ ending. after_turn_continues ending (continues_then (continues_full (value_continues frame step)) (λ v. asks_continue frame c step body)))

pub job_continues : (p : PlainProgram) (n : ℕ) (job : Job) → Continues (meaning p n job) (job_then p n job)
job_continues p zero job = record { same = λ k s. refl }
job_continues p (suc n) job =
    record { same = λ k s. (job_body_continues p (meaning p n) (job_then p n) (job_continues p n) job).same k s }

followed_give : (o : Outcome Ending) → followed_by o give ≡ o
followed_give (Comes x s out) = ap (λ bytes. Comes x s bytes) (append-nil out)
followed_give (Exits status out) = refl
followed_give (Stops out) = refl
followed_give (Fails out) = refl

-- the first call of `main`
pub first_call_is : (p : PlainProgram) (n : ℕ) (s : State) → job_body_then p (job_then p n) (body_of p.main []) give s ≡ job_ending p (meaning p n) (body_of p.main []) s
first_call_is p n s =
    (job_body_continues p (meaning p n) (job_then p n) (job_continues p n) (body_of p.main [])).same give s
    ∙ followed_give (job_ending p (meaning p n) (body_of p.main []) s)
