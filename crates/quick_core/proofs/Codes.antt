-- Statements in both meanings.
use Rattle.std.proofs.Common.{◌≡◌, ℕ, zero, suc, ℤ, pos, Bool, true, false, not, List, [], ◌∷◌, refl, sym, ◌∙◌, ap, subst, cond, Option, Some, None, IsTrue, append-nil}
use Rattle.c_types.specs.Types.{unsigned_char}
use Rattle.c_types.specs.Arithmetic.{bits_of}
use Rattle.core_meaning.specs.declared.program.BuiltIn.TheVariants.{Putchar}
use Rattle.core_meaning.specs.Program.{PlainExpression, constant, assign, call, no_argument, argument, block, evaluate, return_value, PlainFunction, built_in, PlainGlobal, PlainProgram}
use Rattle.core_meaning.specs.Values.{number, Value, scalar}
use Rattle.core_meaning.specs.Memory.{Memory}
use Rattle.core_meaning.specs.Outcomes.{State, Outcome, Comes, Exits, Stops, Fails, Piece, after, followed_by, give, full}
use Rattle.core_meaning.specs.Meaning.{Ending, falls, returns, Frame, Job, turn, truth_from, value_of, asks, then_item, ending_of, items_ending, meaning}
use Rattle.quick_form.specs.Form.{Sum}
use Rattle.quick_form.specs.Program as quick_program
use Rattle.quick_form.specs.Program.{Code}
use Rattle.quick_form.specs.Run as quick
use Rattle.quick_form.specs.Run.{with_value, sum_value, outcome_behind, byte_of, turns, code_run}
use Rattle.quick_core.specs.CoreProgram.{number_in, place, core_sum, core_code}
use Rattle.quick_core.proofs.Values.{condition_is, byte_is}
use Rattle.quick_core.proofs.Cells.{is_in, Alike, written, write_is, alike_written}
use Rattle.quick_core.proofs.Sums.{IsKnownSum, comes_to, IsInt, sum_is, sum_is_int}
use Rattle.quick_form.specs.Run.{is_int}

-- the names are declared, and the numbers are those of an `int`
abbrev pub IsKnownCode : List (List ℕ) → Code → Type 0
IsKnownCode names quick_program.done = Unit {0}
IsKnownCode names (quick_program.assign x s rest) = IsTrue (is_in names x) × IsKnownSum names s × IsKnownCode names rest
IsKnownCode names (quick_program.put s rest) = IsKnownSum names s × IsKnownCode names rest
IsKnownCode names (quick_program.give s rest) = IsKnownSum names s × IsKnownCode names rest
IsKnownCode names (quick_program.while_ s body rest) = IsKnownSum names s × IsKnownCode names body × IsKnownCode names rest

-- a state between full expressions
abbrev pub at_rest : Memory → List ℕ → State
at_rest memory input = record { memory = memory; input = input; temporaries = [] }

-- a program whose function 0 is `putchar`
abbrev pub with_putchar : List PlainFunction → List PlainGlobal → PlainProgram
with_putchar others globals = record { structs = []; functions = built_in Putchar ∷ others; globals = globals; literals = []; main = 1 }

after_nothing : {A : Type 0} (o : Outcome A) → after [] o ≡ o
after_nothing (Comes x s out) = refl
after_nothing (Exits status out) = refl
after_nothing (Stops out) = refl
after_nothing (Fails out) = refl

module _ (names : List (List ℕ)) (input : List ℕ) where
  -- an outcome of the quick form as one of a core program
  abbrev pub Agrees : quick.Outcome → Outcome Ending → Type 0
  Agrees (quick.Falls m out) o = (memory : Memory) × Alike names m memory × (o ≡ Comes falls (at_rest memory input) out)
  Agrees (quick.Returns v out) o = (s : State) × IsTrue (is_int v) × (o ≡ Comes (returns (scalar (number v))) s out)
  Agrees (quick.Stops out) o = o ≡ Stops out
  Agrees (quick.Fails out) o = o ≡ Fails out

  agrees_after : (before : List ℕ) (a : quick.Outcome) (b : Outcome Ending) → Agrees a b → Agrees (outcome_behind before a) (after before b)
  agrees_after before (quick.Falls m out) b h = (h.0, h.1, ap (after before) h.2)
  agrees_after before (quick.Returns v out) b h = (h.0, h.1, ap (after before) h.2)
  agrees_after before (quick.Stops out) b h = ap (after before) h
  agrees_after before (quick.Fails out) b h = ap (after before) h

  agrees_after_nothing : (a : quick.Outcome) (b : Outcome Ending) → Agrees a b → Agrees a (after [] b)
  agrees_after_nothing a b h = subst (Agrees a) (sym (after_nothing b)) h

  agrees_followed : (a : quick.Outcome) (b : Outcome Ending) (next : quick.Memory → quick.Outcome) (next' : Ending → State → Outcome Ending) → Agrees a b
      → ((m : quick.Memory) (memory : Memory) → Alike names m memory → Agrees (next m) (next' falls (at_rest memory input)))
      → ((v : Value) (s : State) → next' (returns v) s ≡ Comes (returns v) s [])
      → Agrees (quick.followed_by a next) (followed_by b next')
  agrees_followed (quick.Falls m out) b next next' h k r =
      subst (λ o. Agrees (outcome_behind out (next m)) (followed_by o next')) (sym h.2)
      (agrees_after out (next m) (next' falls (at_rest h.0 input)) (k m h.0 h.1))
  agrees_followed (quick.Returns v out) b next next' h k r =
      (h.0, h.1, ap (λ o. followed_by o next') h.2 ∙ (ap (after out) (r (scalar (number v)) h.0) ∙ ap (Comes (returns (scalar (number v))) h.0) (append-nil out)))
  agrees_followed (quick.Stops out) b next next' h k r = ap (λ o. followed_by o next') h
  agrees_followed (quick.Fails out) b next next' h k r = ap (λ o. followed_by o next') h

  -- what a sum leads to, and that the sum is undefined
  agrees_given : (o : Option ℤ) (next : ℤ → quick.Outcome) (b : Outcome Ending) → IsInt o
      → ((v : ℤ) → o ≡ Some v → IsTrue (is_int v) → Agrees (next v) b) → (o ≡ None → b ≡ Fails []) → Agrees (quick.given o next) b
  agrees_given (Some v) next b i h k = h v refl i
  agrees_given None next b i h k = k refl

  module _ (others : List PlainFunction) (globals : List PlainGlobal) (frame : Frame) where
    abbrev p : PlainProgram
    p = with_putchar others globals

    module _ (later : Job → Piece Ending) (m : quick.Memory) (memory : Memory) (alike : Alike names m memory) (sum : Sum) (known : IsKnownSum names sum) where
      abbrev s : State
      s = at_rest memory input

      abbrev e : PlainExpression
      e = core_sum names sum

      value_is : (o : Option ℤ) → sum_value m sum ≡ o → value_of p later frame e s ≡ comes_to o s
      value_is o h = sum_is p later frame names m s alike sum known ∙ ap (λ x. comes_to x s) h

      assign_is : (x : List ℕ) (v : ℤ) → IsTrue (is_in names x) → sum_value m sum ≡ Some v
          → ending_of p later frame (evaluate (assign (place names x) e)) s ≡ Comes falls (at_rest (written memory (number_in names x) v) input) []
      assign_is x v h k =
          let w = write_is [] memory (number_in names x) (m x) v (alike.holds x h) in
          rw (value_is (Some v) k) (rw w refl)

      assign_fails : (x : List ℕ) → sum_value m sum ≡ None → ending_of p later frame (evaluate (assign (place names x) e)) s ≡ Fails []
      assign_fails x k = rw (value_is None k) refl

      put_is : (v : ℤ) → sum_value m sum ≡ Some v → ending_of p later frame (evaluate (call 0 (argument e no_argument))) s ≡ Comes falls s (bits_of unsigned_char v ∷ [])
      put_is v k = rw (value_is (Some v) k) refl

      put_fails : sum_value m sum ≡ None → ending_of p later frame (evaluate (call 0 (argument e no_argument))) s ≡ Fails []
      put_fails k = rw (value_is None k) refl

      return_is : (v : ℤ) → sum_value m sum ≡ Some v → ending_of p later frame (return_value e) s ≡ Comes (returns (scalar (number v))) s []
      return_is v k = rw (value_is (Some v) k) refl

      return_fails : sum_value m sum ≡ None → ending_of p later frame (return_value e) s ≡ Fails []
      return_fails k = rw (value_is None k) refl

      truth_is : (v : ℤ) → sum_value m sum ≡ Some v → full (truth_from (value_of p later frame e)) s ≡ Comes (not (quick.is_zero v)) s []
      truth_is v k = rw (value_is (Some v) k) (ap (λ b. Comes b s []) (condition_is v))

      truth_fails : sum_value m sum ≡ None → full (truth_from (value_of p later frame e)) s ≡ Fails []
      truth_fails k = rw (value_is None k) refl

    abbrev rest_of : (later : Job → Piece Ending) → Code → Ending → State → Outcome Ending
    rest_of later c ending = then_item p later ending (items_ending p later frame (core_code names c))

    -- a statement that falls through, and the code behind it
    then_code : (later : Job → Piece Ending) (c : Code) (first : Outcome Ending) (memory : Memory) (before : List ℕ) (a : quick.Outcome)
        → first ≡ Comes falls (at_rest memory input) before
        → Agrees a (items_ending p later frame (core_code names c) (at_rest memory input)) → Agrees (outcome_behind before a) (followed_by first (rest_of later c))
    then_code later c first memory before a e h =
        subst (λ o. Agrees (outcome_behind before a) (followed_by o (rest_of later c))) (sym e)
        (agrees_after before a (items_ending p later frame (core_code names c) (at_rest memory input)) h)

    -- .. that puts nothing out
    then_quietly : (later : Job → Piece Ending) (c : Code) (first : Outcome Ending) (memory : Memory) (a : quick.Outcome)
        → first ≡ Comes falls (at_rest memory input) []
        → Agrees a (items_ending p later frame (core_code names c) (at_rest memory input)) → Agrees a (followed_by first (rest_of later c))
    then_quietly later c first memory a e h =
        subst (λ o. Agrees a (followed_by o (rest_of later c))) (sym e)
        (agrees_after_nothing a (items_ending p later frame (core_code names c) (at_rest memory input)) h)

    fails_with : (later : Job → Piece Ending) (c : Code) (first : Outcome Ending) → first ≡ Fails [] → followed_by first (rest_of later c) ≡ Fails []
    fails_with later c first e = ap (λ o. followed_by o (rest_of later c)) e

    abbrev turn_of : Sum → Code → Job
    turn_of s body = turn frame (core_sum names s) (constant (pos 0)) (block (core_code names body))

    abbrev asks_of : (later : Job → Piece Ending) → Sum → Code → Piece Ending
    asks_of later s body = asks p later frame (core_sum names s) (constant (pos 0)) (block (core_code names body))

    -- the turns of a loop whose body is the same in both meanings
    abbrev BodyAgrees : Code → Type 0
    BodyAgrees body = (n : ℕ) (m : quick.Memory) (memory : Memory) → Alike names m memory
        → Agrees (code_run body n m) (items_ending p (meaning p n) frame (core_code names body) (at_rest memory input))

    -- what follows the condition of a loop
    asked : (zero_value : Bool) (m : quick.Memory) (memory : Memory) (a : quick.Outcome) (later : Piece Ending) → Alike names m memory → Agrees a (later (at_rest memory input))
        → Agrees (cond zero_value (quick.Falls m []) a) ((cond (not zero_value) later (give falls)) (at_rest memory input))
    asked true m memory a later alike h = (memory, alike, refl)
    asked false m memory a later alike h = h

    asks_agree : (later : Job → Piece Ending) (s : Sum) (body : Code) (m : quick.Memory) (memory : Memory) (a : quick.Outcome) → Alike names m memory → IsKnownSum names s
        → Agrees a (later (turn_of s body) (at_rest memory input))
        → Agrees (quick.given (sum_value m s) (λ v. cond (quick.is_zero v) (quick.Falls m []) a)) (asks_of later s body (at_rest memory input))
    asks_agree later s body m memory a alike known h =
        agrees_given (sum_value m s) (λ v. cond (quick.is_zero v) (quick.Falls m []) a) (asks_of later s body (at_rest memory input)) (sum_is_int p later frame names m (at_rest memory input) alike s known)
        (λ v k i.
        subst (λ o. Agrees (cond (quick.is_zero v) (quick.Falls m []) a) (followed_by o (λ holds. cond holds (later (turn_of s body)) (give falls)))) (sym (truth_is later m memory alike s known v k))
        (agrees_after_nothing (cond (quick.is_zero v) (quick.Falls m []) a) _ (asked (quick.is_zero v) m memory a (later (turn_of s body)) alike h)))
        (λ k. ap (λ o. followed_by o (λ holds. cond holds (later (turn_of s body)) (give falls))) (truth_fails later m memory alike s known k))

    turns_agree : (s : Sum) (body : Code) → IsKnownSum names s → BodyAgrees body → (n : ℕ) (m : quick.Memory) (memory : Memory) → Alike names m memory
        → Agrees (turns (code_run body) s n m) (asks_of (meaning p n) s body (at_rest memory input))
    turns_agree s body known h zero m memory alike = asks_agree (meaning p zero) s body m memory (quick.Stops []) alike known refl
    turns_agree s body known h (suc n) m memory alike =
        asks_agree (meaning p (suc n)) s body m memory (quick.followed_by (code_run body n m) (turns (code_run body) s n)) alike known
        (agrees_followed (code_run body n m) (items_ending p (meaning p n) frame (core_code names body) (at_rest memory input)) (turns (code_run body) s n) _ (h n m memory alike)
        (λ m' memory' alike'. agrees_after_nothing (turns (code_run body) s n m') (asks_of (meaning p n) s body (at_rest memory' input)) (turns_agree s body known h n m' memory' alike'))
        (λ v s'. refl))

    pub code_agrees : (c : Code) → IsKnownCode names c → BodyAgrees c
    code_agrees quick_program.done known n m memory alike = (memory, alike, refl)
    code_agrees (quick_program.assign x s rest) known n m memory alike =
        agrees_given (sum_value m s) (λ v. code_run rest n (with_value m x v)) _ (sum_is_int p (meaning p n) frame names m (at_rest memory input) alike s known.1)
        (λ v k i.
        then_quietly (meaning p n) rest _ (written memory (number_in names x) v) (code_run rest n (with_value m x v)) (assign_is (meaning p n) m memory alike s known.1 x v known.0 k)
        (code_agrees rest known.2 n (with_value m x v) (written memory (number_in names x) v) (alike_written names m memory x v alike known.0 i)))
        (λ k. fails_with (meaning p n) rest _ (assign_fails (meaning p n) m memory alike s known.1 x k))
    code_agrees (quick_program.put s rest) known n m memory alike =
        agrees_given (sum_value m s) (λ v. outcome_behind (byte_of v ∷ []) (code_run rest n m)) _ (sum_is_int p (meaning p n) frame names m (at_rest memory input) alike s known.0)
        (λ v k i.
        then_code (meaning p n) rest _ memory (byte_of v ∷ []) (code_run rest n m)
        (put_is (meaning p n) m memory alike s known.0 v k ∙ ap (λ b. Comes falls (at_rest memory input) (b ∷ [])) (byte_is v))
        (code_agrees rest known.1 n m memory alike))
        (λ k. fails_with (meaning p n) rest _ (put_fails (meaning p n) m memory alike s known.0 k))
    code_agrees (quick_program.give s rest) known n m memory alike =
        agrees_given (sum_value m s) (λ v. quick.Returns v []) _ (sum_is_int p (meaning p n) frame names m (at_rest memory input) alike s known.0)
        (λ v k i. (at_rest memory input, i, ap (λ o. followed_by o (rest_of (meaning p n) rest)) (return_is (meaning p n) m memory alike s known.0 v k)))
        (λ k. fails_with (meaning p n) rest _ (return_fails (meaning p n) m memory alike s known.0 k))
    code_agrees (quick_program.while_ s body rest) known n m memory alike =
        agrees_followed (turns (code_run body) s n m) (asks_of (meaning p n) s body (at_rest memory input)) (code_run rest n) (rest_of (meaning p n) rest)
        (turns_agree s body known.0 (code_agrees body known.1) n m memory alike)
        (λ m' memory' alike'. code_agrees rest known.2 n m' memory' alike')
        (λ v s'. refl)
