-- The pair that numbers its texts anew is an extraction.
use Rattle.std.proofs.Common.{◌≡◌, ℕ, zero, suc, true, pos, List, [], ◌∷◌, refl, sym, ◌∙◌, ap, subst, codes, Option, Some, None, slice_get, arith}
use Rattle.std.proofs.lemmas.Option.{none-some}
use Rattle.core_meaning.specs.Program.{call, global, read, no_argument, evaluate, no_item}
use Rattle.run_pairs.specs.Correspondences.{Correspondence, WhereGiven}
use Rattle.run_pairs.specs.Alike
use Rattle.run_pairs.specs.Alike.{Uses, unused, parameter_uses, AlikeFunctions, AlikeBodies, Replacement, in_block}
use Rattle.run_pairs.specs.Extraction.{Extracts}
use Rattle.run_pairs.specs.Starts.{first_objects_of}
use Rattle.run_pairs.specs.WorkedPairs.{one, does, gives, plain_number, puts_text, texts_in_order, texts_turned, WorkedTexts}
use Rattle.run_pairs.proofs.MemoryPairs.{some_same}
use Rattle.run_pairs.proofs.Statements.{direct_of}
use Rattle.run_pairs.proofs.WorkedPair.{through_of, elements_of}

abbrev texts : ℕ → Option ℕ
texts zero = Some 0
texts (suc zero) = Some 2
texts (suc (suc zero)) = Some 1
texts (suc (suc (suc k))) = None

abbrev first : Correspondence
first = first_objects_of texts_in_order texts

abbrev functions : ℕ → Option ℕ
functions zero = Some 1
functions (suc zero) = Some 2
functions (suc (suc k)) = None

abbrev arity : ℕ → ℕ
arity zero = 0
arity (suc k) = 1

abbrev Stands : Replacement
Stands types types' uses r selection ts = Extracts texts_in_order texts_turned functions arity first types types' uses r selection ts

abbrev Same : ℕ → ℕ → Type 0
Same j k = (text : List ℕ) × (slice_get texts_in_order.literals j ≡ Some text) × (slice_get texts_turned.literals k ≡ Some text)

same_texts : (j k : ℕ) → texts j ≡ Some k → Same j k
same_texts zero k e = subst (Same 0) (some_same e) (codes "c", refl, refl)
same_texts (suc zero) k e = subst (Same 1) (some_same e) (codes "a", refl, refl)
same_texts (suc (suc zero)) k e = subst (Same 2) (some_same e) (codes "b", refl, refl)
same_texts (suc (suc (suc j))) k e = absurd (none-some _ e)

-- twice turned, they stand in order
back : (j k : ℕ) → texts j ≡ Some k → texts k ≡ Some j
back zero k e = subst (λ k. texts k ≡ Some 0) (some_same e) refl
back (suc zero) k e = subst (λ k. texts k ≡ Some 1) (some_same e) refl
back (suc (suc zero)) k e = subst (λ k. texts k ≡ Some 2) (some_same e) refl
back (suc (suc (suc j))) k e = absurd (none-some _ e)

abbrev no_uses : Uses
no_uses k = unused

selection : Stands [] [] (parameter_uses 0) true (in_block (evaluate (puts_text 1 2) ∷ [])) (evaluate (call 0 no_argument) ∷ [])
selection = record {
  callee = 0;
  entries = [];
  call_alone = refl;
  inner_types = [];
  body = does (puts_text 2 1) no_item;
  is_function = refl;
  parameter_types = λ k e f. absurd (none-some _ f);
  in_scope = λ k e f. absurd (none-some _ f);
  inner = no_uses;
  distinct = record {
    one = λ i j k e f. absurd (none-some _ (ap direct_of e));
    no_parameter = λ i j k e f. none-some _ (ap direct_of e);
    no_array = λ i j k e f. none-some _ (ap direct_of e);
  };
  none_direct = λ j k e. none-some _ (ap direct_of e);
  passed = λ j k e. absurd (none-some _ (ap through_of e));
  passed_array = λ j k e. absurd (none-some _ (ap elements_of e));
  items =
      Alike.statement_items _ _ _ _ _ _ _ (Alike.evaluates _ _ _ _ _ (Alike.calls 1 2 _ _ refl refl (Alike.arguments _ _ _ _ (Alike.first_elements _ _ (Alike.literals 2 1 refl)) Alike.no_arguments)))
      (Alike.no_items _ _ _);
}

main_bodies : AlikeBodies texts_in_order texts_turned functions arity first Stands 0 [] []
    (does (puts_text 1 1) (does (puts_text 1 2) (does (call 1 (one (read (global 0)))) (gives (plain_number 0)))))
    (does (puts_text 2 2) (does (call 0 no_argument) (does (call 2 (one (read (global 0)))) (gives (plain_number 0)))))
main_bodies = record {
  selects = true;
  parameter_types = λ k less. absurd (omega (arith, less));
  items =
      Alike.statement_items _ _ _ _ _ _ _ (Alike.evaluates _ _ _ _ _ (Alike.calls 1 2 _ _ refl refl (Alike.arguments _ _ _ _ (Alike.first_elements _ _ (Alike.literals 1 2 refl)) Alike.no_arguments)))
      (Alike.selected _ _ _ (evaluate (puts_text 1 2) ∷ []) (evaluate (call 0 no_argument) ∷ []) _ _ refl selection
      (Alike.statement_items _ _ _ _ _ _ _ (Alike.evaluates _ _ _ _ _ (Alike.calls 1 2 _ _ refl refl (Alike.arguments _ _ _ _ (Alike.reads _ _ (Alike.globals 0 0 refl)) Alike.no_arguments)))
      (Alike.statement_items _ _ _ _ _ _ _ (Alike.returns_value _ _ _ _ _ refl (Alike.constants (pos 0))) (Alike.no_items _ _ _))));
}

functions_alike : (f g : ℕ) → functions f ≡ Some g → WhereGiven (AlikeFunctions texts_in_order texts_turned functions arity first Stands (arity f)) (slice_get texts_in_order.functions f) (slice_get texts_turned.functions g)
functions_alike zero g e = subst (λ g. WhereGiven (AlikeFunctions texts_in_order texts_turned functions arity first Stands 0) (slice_get texts_in_order.functions 0) (slice_get texts_turned.functions g)) (some_same e) main_bodies
functions_alike (suc zero) g e = subst (λ g. WhereGiven (AlikeFunctions texts_in_order texts_turned functions arity first Stands 1) (slice_get texts_in_order.functions 1) (slice_get texts_turned.functions g)) (some_same e) refl
functions_alike (suc (suc f)) g e = absurd (none-some _ e)

pub worked_texts_lem : WorkedTexts
worked_texts_lem = record {
  functions = functions;
  arity = arity;
  texts = texts;
  same_main = refl;
  main_alone = refl;
  alike = record { same_structs = refl; alike_functions = functions_alike };
  starts = record {
    globals = (refl, (refl, (refl, refl), tt), tt);
    same_texts = same_texts;
    one = λ i j k e f. some_same (sym (back i k e) ∙ back j k f);
  };
}
