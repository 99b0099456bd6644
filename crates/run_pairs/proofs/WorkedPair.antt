-- The worked pair is an extraction.
use Rattle.std.proofs.Common.{◌≡◌, ℕ, zero, suc, true, pos, [], ◌∷◌, ◌⊎◌, inl, inr, refl, sym, ◌∙◌, ap, subst, cond, eqb, Option, Some, None, slice_get, arith}
use Rattle.std.proofs.lemmas.Option.{none-some}
use Rattle.std.proofs.lemmas.Bool.{cases_eq, eq-eqb, ne_eqb, le-ltb}
use Rattle.c_types.specs.Types.{PlainType, int, pointer_to}
use Rattle.core_meaning.specs.Program.{constant, read, address, call, slot, target, no_argument, argument, evaluate, return_value, no_item, local, statement_item}
use Rattle.core_meaning.specs.Values.{is_scalar}
use Rattle.run_pairs.specs.Correspondences.{Correspondence, WhereGiven}
use Rattle.run_pairs.specs.Alike
use Rattle.run_pairs.specs.Alike.{Use, Uses, direct, through, elements, unused, with_use, parameter_uses, AreDistinct, AlikeFunctions, AlikeBodies, Replacement}
use Rattle.run_pairs.specs.Extraction.{Entry, variable, slot_of, Extracted, Extracts}
use Rattle.run_pairs.specs.Starts.{first_objects_of}
use Rattle.run_pairs.specs.WorkedPairs.{before, program_behind, WorkedPair}
use Rattle.run_pairs.proofs.MemoryPairs.{some_same}
use Rattle.run_pairs.proofs.Statements.{direct_of}

abbrev functions : ℕ → Option ℕ
functions zero = Some 0
functions (suc zero) = Some 2
functions (suc (suc k)) = None

abbrev arity : ℕ → ℕ
arity zero = 1
arity (suc k) = 0

abbrev texts : ℕ → Option ℕ
texts k = None

abbrev first : Correspondence
first = first_objects_of before texts

-- what stands for a slot, with one slot alone
abbrev one_slot : Use → Uses
one_slot u k = cond (eqb k 0) u unused

abbrev pub through_of : Use → Option ℕ
through_of (direct k) = None
through_of (through k) = Some k
through_of (elements k) = None
through_of unused = None

abbrev pub elements_of : Use → Option ℕ
elements_of (direct k) = None
elements_of (through k) = None
elements_of (elements k) = Some k
elements_of unused = None

pub outer : (i : ℕ) (u : Use) → with_use (parameter_uses 0) 0 0 i ≡ u → ((i ≡ 0) × (direct 0 ≡ u)) ⊎ (unused ≡ u)
outer i u e = by_case (cases_eq i 0) where
  by_case : (i ≡ 0) ⊎ (i ≡ 0 → ⊥) → ((i ≡ 0) × (direct 0 ≡ u)) ⊎ (unused ≡ u)
  by_case (inl same) = inl (same, sym (ap (λ b. cond b (direct 0) (parameter_uses 0 i)) (eq-eqb i 0 same)) ∙ e)
  by_case (inr differ) = inr (sym (ap (λ b. cond b (direct 0) (parameter_uses 0 i)) (ne_eqb i 0 differ) ∙ ap (λ b. cond b (direct i) unused) (le-ltb i 0 (omega arith))) ∙ e)

pub outer_direct : (i k : ℕ) → ((i ≡ 0) × (direct 0 ≡ direct k)) ⊎ (unused ≡ direct k) → i ≡ 0
outer_direct i k (inl e) = e.0
outer_direct i k (inr e) = absurd (none-some _ (ap direct_of e))

pub outer_through : (i k : ℕ) → ((i ≡ 0) × (direct 0 ≡ through k)) ⊎ (unused ≡ through k) → ⊥
outer_through i k (inl e) = none-some _ (ap through_of e.1)
outer_through i k (inr e) = none-some _ (ap through_of e)

pub outer_elements : (i k : ℕ) → ((i ≡ 0) × (direct 0 ≡ elements k)) ⊎ (unused ≡ elements k) → ⊥
outer_elements i k (inl e) = none-some _ (ap elements_of e.1)
outer_elements i k (inr e) = none-some _ (ap elements_of e)

pub outer_distinct : AreDistinct (with_use (parameter_uses 0) 0 0)
outer_distinct = record {
  one = λ i j k e f. outer_direct i k (outer i (direct k) e) ∙ sym (outer_direct j k (outer j (direct k) f));
  no_parameter = λ i j k e f. outer_through j k (outer j (through k) f);
  no_array = λ i j k e f. outer_elements j k (outer j (elements k) f);
}

inner_cases : (i : ℕ) (u : Use) → one_slot (through 0) i ≡ u → ((i ≡ 0) × (through 0 ≡ u)) ⊎ (unused ≡ u)
inner_cases i u e = by_case (cases_eq i 0) where
  by_case : (i ≡ 0) ⊎ (i ≡ 0 → ⊥) → ((i ≡ 0) × (through 0 ≡ u)) ⊎ (unused ≡ u)
  by_case (inl same) = inl (same, sym (ap (λ b. cond b (through 0) unused) (eq-eqb i 0 same)) ∙ e)
  by_case (inr differ) = inr (sym (ap (λ b. cond b (through 0) unused) (ne_eqb i 0 differ)) ∙ e)

inner_direct : (i k : ℕ) → ((i ≡ 0) × (through 0 ≡ direct k)) ⊎ (unused ≡ direct k) → ⊥
inner_direct i k (inl e) = none-some _ (ap direct_of e.1)
inner_direct i k (inr e) = none-some _ (ap direct_of e)

inner_elements : (i k : ℕ) → ((i ≡ 0) × (through 0 ≡ elements k)) ⊎ (unused ≡ elements k) → ⊥
inner_elements i k (inl e) = none-some _ (ap elements_of e.1)
inner_elements i k (inr e) = none-some _ (ap elements_of e)

inner_passed : (j k : ℕ) → ((j ≡ 0) × (through 0 ≡ through k)) ⊎ (unused ≡ through k) → (i : ℕ) × (with_use (parameter_uses 0) 0 0 j ≡ direct i) × (slice_get (variable 0 ∷ []) k ≡ Some (variable i))
inner_passed j k (inl e) =
    (0, ap (with_use (parameter_uses 0) 0 0) e.0, subst (λ k. slice_get (variable 0 ∷ []) k ≡ Some (variable 0)) (some_same (ap through_of e.1)) refl)
inner_passed j k (inr e) = absurd (none-some _ (ap through_of e))

scalar_parameter : (k : ℕ) (e : Entry) → slice_get (variable 0 ∷ []) k ≡ Some e → (t : PlainType) × (slice_get (pointer_to int ∷ []) k ≡ Some t) × (is_scalar t ≡ true)
scalar_parameter zero e f = (pointer_to int, refl, refl)
scalar_parameter (suc k) e f = absurd (none-some _ f)

entry_in_scope : (k : ℕ) (e : Entry) → slice_get (variable 0 ∷ []) k ≡ Some e → (j : ℕ) × (with_use (parameter_uses 0) 0 0 j ≡ direct (slot_of e))
entry_in_scope zero e f = (0, ap (λ e. direct (slot_of e)) (some_same f))
entry_in_scope (suc k) e f = absurd (none-some _ f)

abbrev Stands : Replacement
Stands types types' uses r selection ts = Extracts before program_behind functions arity first types types' uses r selection ts

selection : Extracted before program_behind functions arity first (int ∷ []) (int ∷ []) (with_use (parameter_uses 0) 0 0)
    (evaluate (call 0 (argument (constant (pos 65)) no_argument)) ∷ evaluate (call 0 (argument (read (slot 0)) no_argument)) ∷ [])
    (evaluate (call 1 (argument (address (slot 0)) no_argument)) ∷ [])
selection = record {
  callee = 1;
  entries = variable 0 ∷ [];
  call_alone = refl;
  inner_types = pointer_to int ∷ [];
  body = statement_item (evaluate (call 0 (argument (constant (pos 65)) no_argument))) (statement_item (evaluate (call 0 (argument (read (target (read (slot 0)))) no_argument))) no_item);
  is_function = refl;
  parameter_types = scalar_parameter;
  in_scope = entry_in_scope;
  inner = one_slot (through 0);
  distinct = record {
    one = λ i j k e f. absurd (inner_direct i k (inner_cases i (direct k) e));
    no_parameter = λ i j k e f. inner_direct i k (inner_cases i (direct k) e);
    no_array = λ i j k e f. inner_direct i k (inner_cases i (direct k) e);
  };
  none_direct = λ j k e. inner_direct j k (inner_cases j (direct k) e);
  passed = λ j k e. inner_passed j k (inner_cases j (through k) e);
  passed_array = λ j k e. absurd (inner_elements j k (inner_cases j (elements k) e));
  items =
      Alike.statement_items _ _ _ _ _ _ _ (Alike.evaluates _ _ _ _ _ (Alike.calls 0 0 _ _ refl refl (Alike.arguments _ _ _ _ (Alike.constants (pos 65)) Alike.no_arguments)))
      (Alike.statement_items _ _ _ _ _ _ _ (Alike.evaluates _ _ _ _ _ (Alike.calls 0 0 _ _ refl refl (Alike.arguments _ _ _ _ (Alike.reads _ _ (Alike.passed 0 0 refl)) Alike.no_arguments)))
      (Alike.no_items _ _ _));
}

main_bodies : AlikeBodies before program_behind functions arity first Stands 0 (int ∷ []) (int ∷ [])
    (local 0 (record { path = []; value = constant (pos 66) } ∷ [])
    (statement_item (evaluate (call 0 (argument (constant (pos 65)) no_argument)))
    (statement_item (evaluate (call 0 (argument (read (slot 0)) no_argument)))
    (statement_item (return_value (constant (pos 0))) no_item))))
    (local 0 (record { path = []; value = constant (pos 66) } ∷ [])
    (statement_item (evaluate (call 1 (argument (address (slot 0)) no_argument)))
    (statement_item (return_value (constant (pos 0))) no_item)))
main_bodies = record {
  selects = true;
  parameter_types = λ k less. absurd (omega (arith, less));
  items = Alike.locals _ _ _ 0 0 _ _ _ _ refl outer_distinct (Alike.parts [] _ _ _ _ (Alike.constants (pos 66)) Alike.no_parts)
      (Alike.selected _ _ _ (evaluate (call 0 (argument (constant (pos 65)) no_argument)) ∷ evaluate (call 0 (argument (read (slot 0)) no_argument)) ∷ [])
      (evaluate (call 1 (argument (address (slot 0)) no_argument)) ∷ []) _ _ refl selection
      (Alike.statement_items _ _ _ _ _ _ _ (Alike.returns_value _ _ _ _ _ refl (Alike.constants (pos 0))) (Alike.no_items _ _ _)));
}

functions_alike : (f g : ℕ) → functions f ≡ Some g → WhereGiven (AlikeFunctions before program_behind functions arity first Stands (arity f)) (slice_get before.functions f) (slice_get program_behind.functions g)
functions_alike zero g e = subst (λ g. WhereGiven (AlikeFunctions before program_behind functions arity first Stands 1) (slice_get before.functions 0) (slice_get program_behind.functions g)) (some_same e) refl
functions_alike (suc zero) g e = subst (λ g. WhereGiven (AlikeFunctions before program_behind functions arity first Stands 0) (slice_get before.functions 1) (slice_get program_behind.functions g)) (some_same e) main_bodies
functions_alike (suc (suc f)) g e = absurd (none-some _ e)

pub worked_pair_lem : WorkedPair
worked_pair_lem = record {
  functions = functions;
  arity = arity;
  texts = texts;
  same_main = refl;
  main_alone = refl;
  alike = record { same_structs = refl; alike_functions = functions_alike };
  starts = record {
    globals = tt;
    same_texts = λ j k e. absurd (none-some _ e);
    one = λ i j k e f. absurd (none-some _ e);
  };
}
