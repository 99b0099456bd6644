-- A pair by hand, in which a block stands for a call.
use Rattle.std.proofs.Common.{◌≡◌, ℕ, zero, suc, ◌≤◌, true, false, pos, List, [], ◌∷◌, ◌⊎◌, inl, inr, refl, ap, subst, Option, Some, None, slice_get, arith}
use Rattle.std.proofs.lemmas.Option.{none-some}
use Rattle.std.specs.Prelude.{⊤}
use Rattle.c_types.specs.Types.{PlainType, int}
use Rattle.core_meaning.specs.Program.{slot, call, assign, block, evaluate, PlainItems, no_item, local, statement_item}
use Rattle.core_meaning.specs.Values.{at, Scalar, Value, nothing, scalar, whole}
use Rattle.c_types.specs.declared.arithmetic.BinaryOp.TheVariants.{Mul}
use Rattle.core_meaning.specs.declared.integers.IntegerType.TheVariants.{Int}
use Rattle.core_meaning.specs.declared.expressions.Operation.TheVariants.{Numbers}
use Rattle.core_meaning.specs.Memory.{unwritten}
use Rattle.core_meaning.specs.Outcomes.{State, Outcome, Comes, Exits, Stops, Fails, Piece, after, followed_by, ◌>>=◌, give, given, full, without_temporaries}
use Rattle.core_meaning.specs.Meaning.{as_value, scalar_from, operated, make, write_to, Ending, falls, breaks, continues, returns, Frame, with_slot, Job, body_of, value_of, then_item, items_ending, enter, meaning}
use Rattle.run_pairs.specs.Correspondences.{Correspondence, WhereGiven}
use Rattle.run_pairs.specs.Alike
use Rattle.run_pairs.specs.Alike.{Uses, direct, through, elements, unused, with_use, parameter_uses, AlikeFunctions, AlikeBodies, Replacement, in_block}
use Rattle.run_pairs.specs.Inlining
use Rattle.run_pairs.specs.Inlining.{Fits, ReturnsFit, IsNew, Inlines}
use Rattle.run_pairs.specs.Starts.{first_objects_of}
use Rattle.run_pairs.specs.WorkedPairs.{one, does, gives, value_of_slot, plain_number, twice, doubling, with_call, without_call, WorkedInlining}
use Rattle.run_pairs.proofs.MemoryPairs.{some_same}
use Rattle.run_pairs.proofs.Statements.{direct_of}
use Rattle.run_pairs.proofs.WorkedPair.{outer, outer_through, outer_elements, outer_distinct}

abbrev functions : ℕ → Option ℕ
functions zero = Some 0
functions (suc zero) = Some 1
functions (suc (suc k)) = None

abbrev arity : ℕ → ℕ
arity zero = 1
arity (suc k) = 0

abbrev texts : ℕ → Option ℕ
texts k = None

abbrev first : Correspondence
first = first_objects_of with_call texts

abbrev in_main : Uses
in_main = with_use (parameter_uses 0) 0 0

-- ---- what the function returns

-- the result, if there is one, is one of these
abbrev Gives : {A : Type 0} → (A → Type 0) → Outcome A → Type 0
Gives P (Comes x s out) = P x
Gives P (Exits status out) = ⊤
Gives P (Stops out) = ⊤
Gives P (Fails out) = ⊤

gives_after : {A : Type 0} (P : A → Type 0) (out : List ℕ) (o : Outcome A) → Gives P o → Gives P (after out o)
gives_after P out (Comes x s more) h = h
gives_after P out (Exits status more) h = tt
gives_after P out (Stops more) h = tt
gives_after P out (Fails more) h = tt

gives_from : {A B : Type 0} (P : A → Type 0) (Q : B → Type 0) (o : Outcome A) (k : A → State → Outcome B) → Gives P o → ((x : A) (s : State) → P x → Gives Q (k x s)) → Gives Q (followed_by o k)
gives_from P Q (Comes x s out) k h next = gives_after Q out (k x s) (next x s h)
gives_from P Q (Exits status out) k h next = tt
gives_from P Q (Stops out) k h next = tt
gives_from P Q (Fails out) k h next = tt

gives_any : {A : Type 0} (o : Outcome A) → Gives (λ x. ⊤) o
gives_any (Comes x s out) = tt
gives_any (Exits status out) = tt
gives_any (Stops out) = tt
gives_any (Fails out) = tt

-- whatever the state
record AllGive {A : Type 0} (P : A → Type 0) (f : State → Outcome A) : Type 0 where
  pub gives : (s : State) → Gives P (f s)

all_then : {A B : Type 0} {P : A → Type 0} {Q : B → Type 0} {f : State → Outcome A} {h : A → State → Outcome B} → AllGive P f → ((x : A) → P x → AllGive Q (h x)) → AllGive Q (f >>= h)
all_then {P = P} {Q = Q} {f = f} {h = h} all next = record { gives = λ s. gives_from P Q (f s) h (all.gives s) (λ x s p. (next x p).gives s) }

any_then : {A B : Type 0} {Q : B → Type 0} (f : State → Outcome A) {h : A → State → Outcome B} → ((x : A) → AllGive Q (h x)) → AllGive Q (f >>= h)
any_then {Q = Q} f {h = h} next = record { gives = λ s. gives_from (λ x. ⊤) Q (f s) h (gives_any (f s)) (λ x s p. (next x).gives s) }

all_full : {A : Type 0} {P : A → Type 0} {f : State → Outcome A} → AllGive P f → AllGive P (full f)
all_full {P = P} {f = f} all = record { gives = λ s. gives_from P P (f (record s { temporaries = [] })) (λ x now. Comes x (without_temporaries s.temporaries now) []) (all.gives (record s { temporaries = [] })) (λ x s p. p) }

abbrev Returned : Ending → Type 0
Returned falls = ⊤
Returned breaks = ⊤
Returned continues = ⊤
Returned (returns v) = Fits int v

used_fits : (v : Value) (s : State) → Fits int v → Gives (Fits int) (as_value v s)
used_fits nothing s h = tt
used_fits (scalar x) s h = h
used_fits (whole cells) s h = h

module _ (later : Job → Piece Ending) where
  by_ending : (e : Ending) (s : State) → Returned e → Gives Returned (then_item with_call later e (give falls) s)
  by_ending falls s h = tt
  by_ending breaks s h = tt
  by_ending continues s h = tt
  by_ending (returns v) s h = h

  value_fits : (frame : Frame) → AllGive (Fits int) (value_of with_call later frame (twice (value_of_slot 0)))
  value_fits frame =
      any_then {A = Scalar} (scalar_from (value_of with_call later frame (value_of_slot 0))) (λ x.
      any_then {A = Scalar} (scalar_from (value_of with_call later frame (plain_number 2))) (λ y.
      any_then {A = Scalar} (operated with_call (Numbers Mul Int) x y) {h = λ v. give (scalar v)} (λ v. record { gives = λ s. refl })))

  body_fits : (frame : Frame) → AllGive Returned (items_ending with_call later frame (gives (twice (value_of_slot 0))))
  body_fits frame =
      all_then {P = Returned} (all_then {P = Fits int} (all_full (all_then {P = Fits int} (value_fits frame) (λ v h. record { gives = λ s. used_fits v s h }))) (λ v h. record { gives = λ s. h }))
      (λ e h. record { gives = λ s. by_ending e s h })

  enter_fits : (vs : List Value) (frame : Frame) (k : ℕ) → AllGive Returned (enter with_call later frame k vs (gives (twice (value_of_slot 0))))
  enter_fits [] frame k = body_fits frame
  enter_fits (v ∷ vs) frame k = any_then {A = PlainType} (given (slice_get frame.types k)) (λ t. any_then {A = ℕ} (make with_call t unwritten) (λ object. any_then {A = Value} (write_to with_call (at object []) v) (λ written. all_then {P = Returned} (enter_fits vs (with_slot frame k object) (suc k)) (λ e h. record { gives = λ s. h }))))

returns_fit : ReturnsFit with_call 0 int
returns_fit n vs s now v out e = subst (Gives Returned) e (at_bound n) where
  at_bound : (n : ℕ) → Gives Returned (meaning with_call n (body_of 0 vs) s)
  at_bound zero = tt
  at_bound (suc n) = (enter_fits (meaning with_call n) vs (record { types = int ∷ []; objects = λ k. None }) 0).gives s

-- ---- the block

new_slot : (k : ℕ) → (0 ≡ k → ⊥) → IsNew in_main k
new_slot k other = record {
  not_direct = λ j e. by_case j (outer j (direct k) e);
  not_through = λ j e. outer_through j k (outer j (through k) e);
  not_elements = λ j e. outer_elements j k (outer j (elements k) e);
} where
  by_case : (j : ℕ) → ((j ≡ 0) × (direct 0 ≡ direct k)) ⊎ (unused ≡ direct k) → ⊥
  by_case j (inl e) = other (some_same (ap direct_of e.1))
  by_case j (inr e) = none-some _ (ap direct_of e)

zero_one : (◌≡◌ {A = ℕ} 0 1) → ⊥
zero_one e = absurd (omega (arith, e))

zero_two : (◌≡◌ {A = ℕ} 0 2) → ⊥
zero_two e = absurd (omega (arith, e))

two_one : (◌≡◌ {A = ℕ} 2 1) → ⊥
two_one e = absurd (omega (arith, e))

same_parameter : (j k : ℕ) → slice_get (2 ∷ []) j ≡ Some k → (t : PlainType) × (slice_get (int ∷ []) j ≡ Some t) × (slice_get (int ∷ int ∷ int ∷ []) k ≡ Some t)
same_parameter zero k e = (int, refl, subst (λ k. slice_get (int ∷ int ∷ int ∷ []) k ≡ Some int) (some_same e) refl)
same_parameter (suc j) k e = absurd (none-some _ e)

abbrev Stands : Replacement
Stands types types' uses r selection ts = Inlines with_call without_call functions arity first types types' uses r selection ts

abbrev block_items : PlainItems
block_items = local 1 [] (local 2 (record { path = []; value = value_of_slot 0 } ∷ []) (statement_item (block (does (assign (slot 1) (twice (value_of_slot 2))) no_item)) (does (assign (slot 0) (value_of_slot 1)) no_item)))

selection : Stands (int ∷ []) (int ∷ int ∷ int ∷ []) in_main true (in_block (evaluate (assign (slot 0) (call 0 (one (value_of_slot 0)))) ∷ [])) (block block_items ∷ [])
selection = record {
  callee = 0;
  arguments = one (value_of_slot 0);
  arguments' = one (value_of_slot 0);
  inner_types = int ∷ [];
  body = gives (twice (value_of_slot 0));
  body' = does (assign (slot 1) (twice (value_of_slot 2))) no_item;
  is_function = refl;
  result = Some 1;
  parameters = 2 ∷ [];
  last = does (assign (slot 0) (value_of_slot 1)) no_item;
  one_block = refl;
  same_use = Inlining.assigned 1 [] (slot 0) (slot 0) (Inlining.slots 0 0 refl);
  are_new = (new_slot 1 zero_one, (new_slot 2 zero_two, tt));
  differ = ((two_one, tt), (tt, tt));
  same_arguments = Alike.arguments _ _ _ _ (Alike.reads _ _ (Alike.slots 0 0 refl)) Alike.no_arguments;
  count = refl;
  parameter_types = same_parameter;
  result_type = (int, refl, returns_fit);
  copied = Inlining.returns_value _ 1 _ _ refl (Alike.binaries _ _ _ _ _ (Alike.reads _ _ (Alike.slots 0 2 refl)) (Alike.constants (pos 2)));
}

main_bodies : AlikeBodies with_call without_call functions arity first Stands 0 (int ∷ []) (int ∷ int ∷ int ∷ [])
    (local 0 (record { path = []; value = plain_number 21 } ∷ []) (statement_item (evaluate (assign (slot 0) (call 0 (one (value_of_slot 0))))) (gives (value_of_slot 0))))
    (local 0 (record { path = []; value = plain_number 21 } ∷ []) (statement_item (block block_items) (gives (value_of_slot 0))))
main_bodies = record {
  selects = true;
  parameter_types = λ k less. absurd (omega (arith, less));
  items = Alike.locals _ _ _ 0 0 _ _ _ _ refl outer_distinct (Alike.parts [] _ _ _ _ (Alike.constants (pos 21)) Alike.no_parts)
      (Alike.selected _ _ _ (evaluate (assign (slot 0) (call 0 (one (value_of_slot 0)))) ∷ []) (block block_items ∷ []) _ _ refl selection
      (Alike.statement_items _ _ _ _ _ _ _ (Alike.returns_value _ _ _ _ _ refl (Alike.reads _ _ (Alike.slots 0 0 refl))) (Alike.no_items _ _ _)));
}

same_function : AlikeFunctions with_call without_call functions arity first Stands 1 doubling doubling
same_function = record {
  selects = false;
  parameter_types = at_slot;
  items = Alike.statement_items _ _ _ _ _ _ _ (Alike.returns_value _ _ _ _ _ refl (Alike.binaries _ _ _ _ _ (Alike.reads _ _ (Alike.slots 0 0 refl)) (Alike.constants (pos 2)))) (Alike.no_items _ _ _);
} where
  at_slot : (k : ℕ) → suc k ≤ 1 → WhereGiven ◌≡◌ (slice_get (int ∷ []) k) (slice_get (int ∷ []) k)
  at_slot zero less = refl
  at_slot (suc k) less = tt

functions_alike : (f g : ℕ) → functions f ≡ Some g → WhereGiven (AlikeFunctions with_call without_call functions arity first Stands (arity f)) (slice_get with_call.functions f) (slice_get without_call.functions g)
functions_alike zero g e = subst (λ g. WhereGiven (AlikeFunctions with_call without_call functions arity first Stands 1) (slice_get with_call.functions 0) (slice_get without_call.functions g)) (some_same e) same_function
functions_alike (suc zero) g e = subst (λ g. WhereGiven (AlikeFunctions with_call without_call functions arity first Stands 0) (slice_get with_call.functions 1) (slice_get without_call.functions g)) (some_same e) main_bodies
functions_alike (suc (suc f)) g e = absurd (none-some _ e)

pub worked_inlining_lem : WorkedInlining
worked_inlining_lem = record {
  functions = functions;
  arity = arity;
  texts = texts;
  same_main = refl;
  main_alone = refl;
  alike = record { same_structs = refl; alike_functions = functions_alike };
  starts = record {
    globals = tt;
    same_texts = λ j k e. absurd (none-some _ e);
    one = λ i j k e f. absurd (none-some _ e);
  };
}
