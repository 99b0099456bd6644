-- The meaning of expressions and statements (ISO/IEC 9899:2011, 6.5, 6.7.9, 6.8, 7.21.7, 7.22.4.4).
use Rattle.std.specs.Prelude.{ℕ, zero, suc, ◌+◌, ◌-◌, ◌==◌, Bool, true, false, not, ℤ, pos, neg_ℤ, negsuc, List, [], ◌∷◌, ◌++◌, length, Option, Some, None, is_some, option_map, slice_get, if◌then◌else◌}
use Rattle.std.specs.List.{list_any}
use Rattle.c_types.specs.declared.arithmetic.BinaryOp.{BinaryOp}
use Rattle.c_types.specs.declared.arithmetic.BinaryOp.TheVariants.{Shl, Shr}
use Rattle.c_types.specs.Types.{PlainType, int, unsigned_char}
use Rattle.c_types.specs.Integers.{converted}
use Rattle.c_types.specs.Arithmetic.{binary_value, bits_of}
use Rattle.core_meaning.specs.declared.integers.IntegerType.{IntegerType}
use Rattle.core_meaning.specs.declared.expressions.Operation.{Operation}
use Rattle.core_meaning.specs.declared.expressions.Operation.TheVariants as operation
use Rattle.core_meaning.specs.declared.expressions.Change.{Change}
use Rattle.core_meaning.specs.declared.expressions.Change.TheVariants as change
use Rattle.core_meaning.specs.declared.program.BuiltIn.{BuiltIn}
use Rattle.core_meaning.specs.declared.program.BuiltIn.TheVariants.{Putchar, Getchar, Puts, Exit}
use Rattle.core_meaning.specs.Program.{type_of, PlainExpression, constant, null_constant, read, address, first_element, convert, binary, logical_not, logical_and, logical_or, choose, assign, update, update_after, call, discard, PlainPlace, slot, global, literal, target, member, temporary, PlainArguments, no_argument, argument, PlainPart, PlainStatement, block, evaluate, selection, loop, break_loop, continue_loop, return_nothing, return_value, PlainItems, no_item, local, statement_item, PlainFunction, defined, built_in, PlainProgram}
use Rattle.core_meaning.specs.Values.{Pointer, null, at, Scalar, number, pointer, Cells, Value, nothing, scalar, whole, onward, is_true, truth_number, Stand, element_path}
use Rattle.core_meaning.specs.Memory.{Memory, unwritten, zeros, fresh, with_object, with_new, with_ended, value_at, written_at, stand_in, moved, distance, defined_value, compared, member_at, first_at}
use Rattle.core_meaning.specs.Outcomes.{State, Outcome, Comes, Exits, Stops, Piece, ◌>>=◌, give, undefined, given, put_out, memory_now, set_memory, full}

-- how statements end: they fall through, leave or continue a loop, or return with a value or with nothing
pub data Ending : Type 0 where
  falls : Ending
  breaks : Ending
  continues : Ending
  returns : Value → Ending

-- a function under way: the types of its slots, and the objects of those that are declared
pub record Frame : Type 0 where
  pub types : List PlainType
  pub objects : ℕ → Option ℕ

abbrev pub with_slot : Frame → ℕ → ℕ → Frame
with_slot frame k object = record frame { objects = λ j. if j == k then Some object else frame.objects j }

-- what costs one of the bound: a call of a function with a body, or a turn of a loop with all that follows in that loop
pub data Job : Type 0 where
  body_of : ℕ → List Value → Job
  turn : Frame → PlainExpression → PlainExpression → PlainStatement → Job

-- ---- the use of values

abbrev pub as_value : Value → Piece Value
as_value nothing = undefined
as_value (scalar v) = give (scalar v)
as_value (whole cells) = give (whole cells)

abbrev pub as_scalar : Value → Piece Scalar
as_scalar (scalar v) = give v
as_scalar other = undefined

abbrev pub as_pointer : Value → Piece Pointer
as_pointer (scalar (pointer p)) = give p
as_pointer other = undefined

-- the value is used: that of a call that ended without one is undefined
abbrev pub used : Piece Value → Piece Value
used piece = piece >>= as_value

abbrev pub scalar_from : Piece Value → Piece Scalar
scalar_from piece = piece >>= as_scalar

abbrev pub pointer_from : Piece Value → Piece Pointer
pointer_from piece = piece >>= as_pointer

abbrev pub truth_from : Piece Value → Piece Bool
truth_from piece = scalar_from piece >>= (λ v. give (is_true v))

-- a number in an integer type (6.3.1.3)
abbrev pub scalar_in_type : IntegerType → Scalar → Piece Scalar
scalar_in_type t (number z) = give (number (converted (type_of t) z))
scalar_in_type t (pointer p) = undefined

-- the right operand of an operation on numbers: that of a shift isn't converted (6.5.7)
abbrev pub right_operand : BinaryOp → PlainType → ℤ → ℤ
right_operand Shl t z = z
right_operand Shr t z = z
right_operand op t z = converted t z

-- an operation on two numbers in a type
abbrev pub computed : BinaryOp → PlainType → ℤ → ℤ → Option ℤ
computed op t x y = defined_value (binary_value op t (converted t x) (right_operand op t y))

-- cells with zeros where no part of an initialiser is
abbrev pub cells_filled : List PlainPart → Cells → Cells → Cells
cells_filled parts zero_cells cells path = if list_any (λ x. is_some (onward x.path path)) parts then cells path else zero_cells path

-- ---- with a program

module _ (p : PlainProgram) where
  abbrev pub read_from : Pointer → Piece Value
  read_from q = memory_now >>= (λ m. given (value_at p.structs m q))

  -- a value is written, and is the result
  abbrev pub write_to : Pointer → Value → Piece Value
  write_to q v = do
    m ← memory_now
    now ← given (written_at p.structs m q v)
    done ← set_memory now
    give v

  -- a new object, by its number
  abbrev pub make : PlainType → Cells → Piece ℕ
  make t cells = do
    m ← memory_now
    done ← set_memory (with_new m (fresh t cells))
    give m.made

  -- the object ends, and this is the result
  abbrev pub end_object : {A : Type 0} → ℕ → A → Piece A
  end_object k result = do
    m ← memory_now
    done ← set_memory (with_ended m k)
    give result

  abbrev pub move_by : Pointer → ℤ → Piece Scalar
  move_by q by = memory_now >>= (λ m. given (option_map pointer (moved p.structs m q by)))

  -- an operation on two values (6.5.5 to 6.5.12)
  abbrev pub operated : Operation → Scalar → Scalar → Piece Scalar
  operated (operation.Numbers op t) (number x) (number y) = given (option_map number (computed op (type_of t) x y))
  operated operation.Forward (pointer q) (number y) = move_by q y
  operated operation.ForwardBy (number x) (pointer q) = move_by q x
  operated operation.Back (pointer q) (number y) = move_by q (neg_ℤ y)
  operated operation.Distance (pointer q) (pointer r) = memory_now >>= (λ m. given (option_map number (distance p.structs m q r)))
  operated (operation.Pointers op) (pointer q) (pointer r) = memory_now >>= (λ m. given (option_map number (compared p.structs op m q r)))
  operated other x y = undefined

  -- the new value of a compound assignment, from the old one and the right operand (6.5.16.2)
  abbrev pub changed : Change → Scalar → Scalar → Piece Scalar
  changed (change.Numbers op t place_type) x y = operated (operation.Numbers op t) x y >>= scalar_in_type place_type
  changed change.Forward x y = operated operation.Forward x y
  changed change.Back x y = operated operation.Back x y

  -- a temporary object with a value (6.2.4)
  abbrev pub temporary_with : PlainType → Value → Piece Pointer
  temporary_with t v = do
    k ← make t unwritten
    written ← write_to (at k []) v
    λ s. Comes (at k []) (record s { temporaries = k ∷ s.temporaries }) []

  -- the scalars that no part gives get zeros
  abbrev pub fill_missing : ℕ → PlainType → List PlainPart → Piece (Unit {0})
  fill_missing k t parts = do
    m ← memory_now
    set_memory (with_object m k (record (m.object k) { cells = cells_filled parts (zeros p.structs t) (m.object k).cells }))

  -- ---- the functions of the built-in headers

  abbrev pub byte_of : Option Value → Option ℕ
  byte_of (Some (scalar (number z))) = Some (bits_of unsigned_char z)
  byte_of other = None

  abbrev pub until_zero : Option ℕ → Option (List ℕ) → Option (List ℕ)
  until_zero None rest = None
  until_zero (Some zero) rest = Some []
  until_zero (Some (suc b)) rest = option_map (λ bytes. suc b ∷ bytes) rest

  -- the bytes up to a zero, among so many elements that are left; None where one before it isn't written, or none is zero
  abbrev pub text_from : Memory → ℕ → Stand → ℕ → ℕ → Option (List ℕ)
  text_from m object stand zero index = None
  text_from m object stand (suc left) index =
      until_zero (byte_of (value_at p.structs m (at object (element_path stand index)))) (text_from m object stand left (suc index))

  abbrev pub text_in : Memory → ℕ → Stand → Option (List ℕ)
  text_in m object stand = text_from m object stand (stand.count - stand.index) stand.index

  abbrev pub text_at : Memory → Pointer → Option (List ℕ)
  text_at m null = None
  text_at m (at object path) = text_in m object (stand_in p.structs m object path)

  abbrev pub next_byte : List ℕ → State → Outcome Value
  next_byte [] s = Comes (scalar (number (negsuc 0))) s []
  next_byte (b ∷ rest) s = Comes (scalar (number (pos b))) (record s { input = rest }) []

  abbrev pub called_built_in : BuiltIn → List Value → Piece Value
  called_built_in Putchar (scalar (number z) ∷ []) = do
    done ← put_out (bits_of unsigned_char z ∷ [])
    give (scalar (number (pos (bits_of unsigned_char z))))
  called_built_in Getchar [] = λ s. next_byte s.input s
  called_built_in Puts (scalar (pointer q) ∷ []) = do
    m ← memory_now
    text ← given (text_at m q)
    done ← put_out (text ++ 10 ∷ [])
    give (scalar (number (pos 0)))
  called_built_in Exit (scalar (number z) ∷ []) = λ s. Exits (converted int z) []
  called_built_in other arguments = undefined

  -- what the value of a call is, if it has one (6.9.1)
  abbrev pub call_value : Ending → Piece Value
  call_value falls = give nothing
  call_value (returns v) = give v
  call_value other = undefined

  -- ---- with what costs one of the bound

  module _ (later : Job → Piece Ending) where
    abbrev pub called_function : Option PlainFunction → ℕ → List Value → Piece Value
    called_function (Some (defined types body)) f arguments = later (body_of f arguments) >>= call_value
    called_function (Some (built_in b)) f arguments = called_built_in b arguments
    called_function None f arguments = undefined

    abbrev pub called : ℕ → List Value → Piece Value
    called f arguments = called_function (slice_get p.functions f) f arguments

    module _ (frame : Frame) where
      -- What an expression gives, where a place is, and what arguments give.
      abbrev mutual
        pub value_of : PlainExpression → Piece Value
        value_of (constant z) = give (scalar (number z))
        value_of null_constant = give (scalar (pointer null))
        value_of (read place) = place_of place >>= read_from
        value_of (address place) = do
          q ← place_of place
          give (scalar (pointer q))
        value_of (first_element place) = do
          q ← place_of place
          first ← given (first_at q)
          give (scalar (pointer first))
        value_of (convert t e) = do
          x ← scalar_from (value_of e)
          v ← scalar_in_type t x
          give (scalar v)
        value_of (binary op a b) = do
          x ← scalar_from (value_of a)
          y ← scalar_from (value_of b)
          v ← operated op x y
          give (scalar v)
        value_of (logical_not e) = do
          holds ← truth_from (value_of e)
          give (scalar (truth_number (not holds)))
        value_of (logical_and a b) = do
          first ← truth_from (value_of a)
          holds ← if first then truth_from (value_of b) else give false
          give (scalar (truth_number holds))
        value_of (logical_or a b) = do
          first ← truth_from (value_of a)
          holds ← if first then give true else truth_from (value_of b)
          give (scalar (truth_number holds))
        value_of (choose c a b) = do
          holds ← truth_from (value_of c)
          if holds then value_of a else value_of b
        value_of (assign place e) = do
          q ← place_of place
          v ← used (value_of e)
          write_to q v
        value_of (update change place e) = do
          q ← place_of place
          y ← scalar_from (value_of e)
          x ← scalar_from (read_from q)
          v ← changed change x y
          write_to q (scalar v)
        value_of (update_after change place e) = do
          q ← place_of place
          y ← scalar_from (value_of e)
          x ← scalar_from (read_from q)
          v ← changed change x y
          written ← write_to q (scalar v)
          give (scalar x)
        value_of (call f arguments) = values_of arguments >>= called f
        value_of (discard e) = do
          v ← value_of e
          give nothing

        pub place_of : PlainPlace → Piece Pointer
        place_of (slot k) = given (option_map (λ object. at object []) (frame.objects k))
        place_of (global k) = give (at k [])
        place_of (literal k) = give (at (length p.globals + k) [])
        place_of (target e) = pointer_from (value_of e)
        place_of (member place k) = do
          q ← place_of place
          m ← memory_now
          given (member_at m q k)
        place_of (temporary t e) = used (value_of e) >>= temporary_with t

        pub values_of : PlainArguments → Piece (List Value)
        values_of no_argument = give []
        values_of (argument e rest) = do
          v ← used (value_of e)
          vs ← values_of rest
          give (v ∷ vs)

      -- ---- initialisers (6.7.9)

      -- the parts are evaluated and written one after the other
      abbrev pub write_parts : ℕ → List PlainPart → Piece (Unit {0})
      write_parts object [] = give tt
      write_parts object (x ∷ rest) = do
        v ← full (used (value_of x.value))
        written ← write_to (at object x.path) v
        write_parts object rest

      abbrev pub initialise : ℕ → PlainType → List PlainPart → Piece (Unit {0})
      initialise k t [] = give tt
      initialise k t (x ∷ rest) = do
        written ← write_parts k (x ∷ rest)
        fill_missing k t (x ∷ rest)

    -- ---- statements

    -- a loop asks its condition, and begins a turn if it holds (6.8.5)
    abbrev pub asks : Frame → PlainExpression → PlainExpression → PlainStatement → Piece Ending
    asks frame c step body = do
      holds ← full (truth_from (value_of frame c))
      if holds then later (turn frame c step body) else give falls

    -- what follows a statement in a block
    abbrev pub then_item : Ending → Piece Ending → Piece Ending
    then_item falls next = next
    then_item other next = give other

    -- How a statement ends, and how the items of a block do.
    abbrev mutual
      pub ending_of : Frame → PlainStatement → Piece Ending
      ending_of frame (block items) = items_ending frame items
      ending_of frame (evaluate e) = do
        v ← full (value_of frame e)
        give falls
      ending_of frame (selection c a b) = do
        holds ← full (truth_from (value_of frame c))
        if holds then ending_of frame a else ending_of frame b
      ending_of frame (loop asks_first c step body) = if asks_first then asks frame c step body else later (turn frame c step body)
      ending_of frame break_loop = give breaks
      ending_of frame continue_loop = give continues
      ending_of frame return_nothing = give (returns nothing)
      ending_of frame (return_value e) = do
        v ← full (used (value_of frame e))
        give (returns v)

      pub items_ending : Frame → PlainItems → Piece Ending
      items_ending frame no_item = give falls
      items_ending frame (local k parts rest) = do
        t ← given (slice_get frame.types k)
        object ← make t unwritten
        done ← initialise (with_slot frame k object) object t parts
        ending ← items_ending (with_slot frame k object) rest
        end_object object ending
      items_ending frame (statement_item s rest) = do
        ending ← ending_of frame s
        then_item ending (items_ending frame rest)

    -- ---- what costs one

    -- the parameters from a slot on get the arguments, and live until the body ends (6.5.2.2, 6.9.1)
    abbrev pub enter : Frame → ℕ → List Value → PlainItems → Piece Ending
    enter frame k [] body = items_ending frame body
    enter frame k (v ∷ rest) body = do
      t ← given (slice_get frame.types k)
      object ← make t unwritten
      written ← write_to (at object []) v
      ending ← enter (with_slot frame k object) (suc k) rest body
      end_object object ending

    abbrev pub enter_function : Option PlainFunction → List Value → Piece Ending
    enter_function (Some (defined types body)) arguments = enter (record { types = types; objects = λ k. None }) 0 arguments body
    enter_function other arguments = undefined

    -- what follows the body of a turn
    abbrev pub after_turn : Ending → Piece Ending → Piece Ending
    after_turn falls next = next
    after_turn continues next = next
    after_turn breaks next = give falls
    after_turn (returns v) next = give (returns v)

    abbrev pub job_ending : Job → Piece Ending
    job_ending (body_of f arguments) = enter_function (slice_get p.functions f) arguments
    job_ending (turn frame c step body) = do
      ending ← ending_of frame body
      after_turn ending (do
        stepped ← full (value_of frame step)
        asks frame c step body)

  -- ---- the bound

  abbrev pub at_bound : Job → Piece Ending
  at_bound job s = Stops []

  -- what costs one, where so much of the bound is left
  abbrev pub meaning : ℕ → Job → Piece Ending
  meaning zero = at_bound
  meaning (suc n) = job_ending (meaning n)
