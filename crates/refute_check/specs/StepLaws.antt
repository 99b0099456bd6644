-- Laws, not part of the meaning:
-- What is known while a step is checked agrees with each assignment that satisfies the clauses before it, so well-checked steps
-- follow from these clauses.
use Rattle.std.proofs.Common.{◌≡◌, ℕ, zero, suc, ◌+◌, ℤ, pos, negsuc, Bool, true, false, not, ◌&&◌, ◌||◌, cond, List, [], ◌∷◌, ◌++◌, length, get_or, map, set, replicate, slice_get, Option, None, Some, is_none, refl, sym, ap, ◌∙◌, subst, inl, inr}
use Rattle.std.proofs.Math.Bool.{not-not, or-false, and-true, and_assoc}
use Rattle.std.proofs.lemmas.Bool.{false≢true, cases_eq, cases_lt}
use Rattle.std.proofs.lemmas.List.{append-nil, append_assoc, get_or-set_same, get_or-set_other, get_or_past, length-set}
use Rattle.std.proofs.lemmas.List.Folds.{list_all-append, list_all-map}
use Rattle.std.specs.Cmp.Derive.{both_true}
use Rattle.std.specs.List.{list_all}
use Rattle.refute_check.specs.declared.refusals.CheckKind.{CheckKind}
use Rattle.refute_check.specs.declared.refusals.CheckKind.TheVariants.{Syntax}
use Rattle.refute_check.specs.Clauses.{literal_holds, clause_holds, all_hold, is_clause}
use Rattle.refute_check.specs.Steps.{no_values, literal_of, value_of, is_false, taken_true, taken_false, all_taken_false, Judgement, false_clause, unit, neither, judged, judgement, all_false, clause_at, hint_judgement, hint_fault, hints_fault, step_fault}
use Rattle.refute_check.specs.Refutations.{Step, well_checked}

pub left_true : (a b : Bool) → (a && b) ≡ true → a ≡ true
left_true true b is = refl
left_true false b is = is

pub right_true : (a b : Bool) → (a && b) ≡ true → b ≡ true
right_true true b is = is
right_true false b is = absurd (false≢true is)

pub left_false : (a b : Bool) → (a || b) ≡ false → a ≡ false
left_false false b is = refl
left_false true b is = is

pub right_false : (a b : Bool) → (a || b) ≡ false → b ≡ false
right_false false b is = is
right_false true b is = absurd (false≢true (sym is))

pub true_unless_false : (b : Bool) → (b ≡ false → ⊥) → b ≡ true
true_unless_false true never = refl
true_unless_false false never = absurd (never refl)

fine_hints : (formed : Bool) (fault : Option CheckKind) → cond formed fault (Some Syntax) ≡ None → fault ≡ None
fine_hints true fault fine = fine
fine_hints false fault fine = cc

pub none_from_test : (fault : Option CheckKind) → is_none fault ≡ true → fault ≡ None
none_from_test None is = refl
none_from_test (Some kind) is = absurd (false≢true is)

-- each value that is known is the assignment's
abbrev pub Agrees : (ℕ → Bool) → List (Option Bool) → Type 0
Agrees values known = (variable : ℕ) (value : Bool) → get_or known variable None ≡ Some value → values variable ≡ value

variable_value : (positive : Bool) (known : Option Bool) (value : Bool) → literal_of positive known ≡ Some value → known ≡ Some (cond positive value (not value))
variable_value positive None value is = cc
variable_value true (Some known) value is = is
variable_value false (Some known) value is =
    let same : not known ≡ value = cc in
    ap Some (sym (not-not known) ∙ ap not same)

pub get_or-replicate_None : (n i : ℕ) → get_or {A = Option Bool} (replicate n None) i None ≡ None
get_or-replicate_None zero i = refl
get_or-replicate_None (suc n) zero = refl
get_or-replicate_None (suc n) (suc i) = get_or-replicate_None n i

module _ (values : ℕ → Bool) where
  pub value_agrees : (known : List (Option Bool)) (literal : ℤ) (value : Bool) → Agrees values known → value_of known literal ≡ Some value → literal_holds values literal ≡ value
  value_agrees known (pos n) value agrees is = agrees n value (variable_value true (get_or known n None) value is)
  value_agrees known (negsuc n) value agrees is =
      ap not (agrees (suc n) (not value) (variable_value false (get_or known (suc n) None) value is)) ∙ not-not value

  pub false_agrees : (known : Option Bool) → is_false known ≡ true → known ≡ Some false
  false_agrees None is = absurd (false≢true is)
  false_agrees (Some true) is = absurd (false≢true is)
  false_agrees (Some false) is = refl

  all_false-holds : (known : List (Option Bool)) → Agrees values known → (clause : List ℤ) → all_false known clause ≡ true → clause_holds values clause ≡ false
  all_false-holds known agrees [] is = refl
  all_false-holds known agrees (first ∷ rest) is =
      let false_first = false_agrees (value_of known first) (left_true (is_false (value_of known first)) (all_false known rest) is) in
      rw (value_agrees known first false agrees false_first) (all_false-holds known agrees rest (right_true (is_false (value_of known first)) (all_false known rest) is))

  -- what a judgement says of the assignment
  abbrev pub Says : Judgement → List ℤ → Type 0
  Says false_clause clause = clause_holds values clause ≡ false
  Says (unit literal) clause = clause_holds values clause ≡ literal_holds values literal
  Says neither clause = Unit {0}

  says_more : (judgement : Judgement) (first : ℤ) (rest : List ℤ) → literal_holds values first ≡ false → Says judgement rest → Says judgement (first ∷ rest)
  says_more false_clause first rest is says = rw is says
  says_more (unit literal) first rest is says = rw is says
  says_more neither first rest is says = tt

  judged_says : (known : Option Bool) (first : ℤ) (rest : List ℤ) (others_false : Bool) (others : Judgement) → ((value : Bool) → known ≡ Some value → literal_holds values first ≡ value) → (others_false ≡ true → clause_holds values rest ≡ false) → Says others rest → Says (judged known first others_false others) (first ∷ rest)
  judged_says (Some false) first rest others_false others first_is rest_is says = says_more others first rest (first_is false refl) says
  judged_says (Some true) first rest others_false others first_is rest_is says = tt
  judged_says None first rest true others first_is rest_is says = rw (rest_is refl) (or-false (literal_holds values first))
  judged_says None first rest false others first_is rest_is says = tt

  pub judgement_says : (known : List (Option Bool)) → Agrees values known → (clause : List ℤ) → Says (judgement known clause) clause
  judgement_says known agrees [] = refl
  judgement_says known agrees (first ∷ rest) =
      judged_says (value_of known first) first rest (all_false known rest) (judgement known rest) (λ value is. value_agrees known first value agrees is) (all_false-holds known agrees rest) (judgement_says known agrees rest)

  set_agrees_there : (known : List (Option Bool)) (variable : ℕ) (value : Bool) → get_or (set known variable (Some (values variable))) variable None ≡ Some value → values variable ≡ value
  set_agrees_there known variable value is = elim (cases_lt variable (length known)) [
    | inl within ↦ let e = get_or-set_same known variable (Some (values variable)) None within in cc
    | inr past ↦ let e = get_or_past (set known variable (Some (values variable))) variable None (rw (length-set known variable (Some (values variable))) past) in cc
  ]

  set_agrees : (known : List (Option Bool)) (variable : ℕ) → Agrees values known → Agrees values (set known variable (Some (values variable)))
  set_agrees known variable agrees other value is = elim (cases_eq other variable) [
    | inl same ↦ rw same (set_agrees_there known variable value (rw same at is))
    | inr different ↦ agrees other value (sym (get_or-set_other known variable other (Some (values variable)) None different) ∙ is)
  ]

  pub taken_true-agrees : (known : List (Option Bool)) (literal : ℤ) → Agrees values known → literal_holds values literal ≡ true → Agrees values (taken_true known literal)
  taken_true-agrees known (pos n) agrees holds = subst (λ (b : Bool). Agrees values (set known n (Some b))) holds (set_agrees known n agrees)
  taken_true-agrees known (negsuc n) agrees holds =
      subst (λ (b : Bool). Agrees values (set known (suc n) (Some b))) (sym (not-not (values (suc n))) ∙ ap not holds) (set_agrees known (suc n) agrees)

  pub taken_false-agrees : (known : List (Option Bool)) (literal : ℤ) → Agrees values known → literal_holds values literal ≡ false → Agrees values (taken_false known literal)
  taken_false-agrees known (pos n) agrees holds = subst (λ (b : Bool). Agrees values (set known n (Some b))) holds (set_agrees known n agrees)
  taken_false-agrees known (negsuc n) agrees holds =
      subst (λ (b : Bool). Agrees values (set known (suc n) (Some b))) (sym (not-not (values (suc n))) ∙ ap not holds) (set_agrees known (suc n) agrees)

  pub all_taken_false-agrees : (known : List (Option Bool)) (clause : List ℤ) → Agrees values known → clause_holds values clause ≡ false → Agrees values (all_taken_false known clause)
  all_taken_false-agrees known [] agrees holds = agrees
  all_taken_false-agrees known (first ∷ rest) agrees holds =
      all_taken_false-agrees (taken_false known first) rest (taken_false-agrees known first agrees (left_false (literal_holds values first) (clause_holds values rest) holds)) (right_false (literal_holds values first) (clause_holds values rest) holds)

  pub no_values-agrees : (vars : ℕ) → Agrees values (no_values vars)
  no_values-agrees vars variable value is = let e = get_or-replicate_None (vars + 1) variable in cc

  got_holds : (clauses : List (List ℤ)) (index : ℕ) (clause : List ℤ) → all_hold values clauses ≡ true → slice_get clauses index ≡ Some clause → clause_holds values clause ≡ true
  got_holds [] index clause hold is = cc
  got_holds (first ∷ rest) zero clause hold is =
      let same : clause ≡ first = cc in
      rw same (left_true (clause_holds values first) (all_hold values rest) hold)
  got_holds (first ∷ rest) (suc index) clause hold is =
      got_holds rest index clause (right_true (clause_holds values first) (all_hold values rest) hold) is

  pub clause_at-holds : (clauses : List (List ℤ)) (hint : ℕ) (clause : List ℤ) → all_hold values clauses ≡ true → clause_at clauses hint ≡ Some clause → clause_holds values clause ≡ true
  clause_at-holds clauses zero clause holds is = cc
  clause_at-holds clauses (suc index) clause holds is = got_holds clauses index clause holds is

  module _ (clauses : List (List ℤ)) (known : List (Option Bool)) (agrees : Agrees values known) (rest : List ℕ) (onward : (more : List (Option Bool)) → Agrees values more → hints_fault clauses more rest ≡ None → ⊥) where
    judged_refutes : (judgement : Judgement) (clause : List ℤ) → Says judgement clause → clause_holds values clause ≡ true → hint_fault judgement (λ literal. hints_fault clauses (taken_true known literal) rest) rest ≡ None → ⊥
    judged_refutes false_clause clause says holds fine = false≢true (sym says ∙ holds)
    judged_refutes (unit literal) clause says holds fine =
        onward (taken_true known literal) (taken_true-agrees known literal agrees (sym says ∙ holds)) fine
    judged_refutes neither clause says holds fine = cc

    hint_refutes : (found : Option (List ℤ)) → ((clause : List ℤ) → found ≡ Some clause → clause_holds values clause ≡ true) → hint_fault (hint_judgement known found) (λ literal. hints_fault clauses (taken_true known literal) rest) rest ≡ None → ⊥
    hint_refutes None holds fine = cc
    hint_refutes (Some clause) holds fine =
        judged_refutes (judgement known clause) clause (judgement_says known agrees clause) (holds clause refl) fine

  -- with hints that are right, an assignment that satisfies the clauses can't agree with the values
  hints_refute : (clauses : List (List ℤ)) → all_hold values clauses ≡ true → (known : List (Option Bool)) → Agrees values known → (hints : List ℕ) → hints_fault clauses known hints ≡ None → ⊥
  hints_refute clauses hold known agrees [] fine = cc
  hints_refute clauses hold known agrees (hint ∷ rest) fine =
      hint_refutes clauses known agrees rest (λ more agree is. hints_refute clauses hold more agree rest is) (clause_at clauses hint) (λ clause is. clause_at-holds clauses hint clause hold is) fine

  pub step_follows : (vars : ℕ) (clauses : List (List ℤ)) (clause : List ℤ) (hints : List ℕ) → all_hold values clauses ≡ true → step_fault vars clauses clause hints ≡ None → clause_holds values clause ≡ true
  step_follows vars clauses clause hints hold fine =
      true_unless_false (clause_holds values clause) (λ is_false.
      hints_refute clauses hold (all_taken_false (no_values vars) clause) (all_taken_false-agrees (no_values vars) clause (no_values-agrees vars) is_false) hints (fine_hints (is_clause vars clause) (hints_fault clauses (all_taken_false (no_values vars) clause) hints) fine))

  pub steps_follow : (vars : ℕ) (clauses : List (List ℤ)) (steps : List Step) → all_hold values clauses ≡ true → well_checked vars clauses steps ≡ true → list_all (λ step. clause_holds values step.clause) steps ≡ true
  steps_follow vars clauses [] hold checked = refl
  steps_follow vars clauses (first ∷ rest) hold checked =
      let fault = step_fault vars clauses first.clause first.hints in
      let more = clauses ++ first.clause ∷ [] in
      let fine = none_from_test fault (left_true (is_none fault) (well_checked vars more rest) checked) in
      let holds = step_follows vars clauses first.clause first.hints hold fine in
      let hold_more : all_hold values more ≡ true = list_all-append (clause_holds values) clauses (first.clause ∷ []) ∙ both_true hold (both_true holds refl) in
      both_true holds (steps_follow vars more rest hold_more (right_true (is_none fault) (well_checked vars more rest) checked))

-- a step behind others may use their clauses
pub well_checked-append : (vars : ℕ) (clauses : List (List ℤ)) (steps : List Step) (step : Step) → well_checked vars clauses (steps ++ step ∷ []) ≡ (well_checked vars clauses steps && is_none (step_fault vars (clauses ++ map (λ (s : Step). s.clause) steps) step.clause step.hints))
well_checked-append vars clauses [] step =
    and-true (is_none (step_fault vars clauses step.clause step.hints)) ∙ ap (λ (before : List (List ℤ)). is_none (step_fault vars before step.clause step.hints)) (sym (append-nil clauses))
well_checked-append vars clauses (first ∷ rest) step =
    let fine = is_none (step_fault vars clauses first.clause first.hints) in
    let later = well_checked vars (clauses ++ first.clause ∷ []) rest in
    let fits = λ (before : List (List ℤ)). is_none (step_fault vars before step.clause step.hints) in
    ap (λ (b : Bool). fine && b) (well_checked-append vars (clauses ++ first.clause ∷ []) rest step)
    ∙ sym (and_assoc fine later (fits (clauses ++ first.clause ∷ [] ++ map (λ (s : Step). s.clause) rest)))
    ∙ ap (λ (before : List (List ℤ)). fine && later && fits before) (append_assoc clauses (first.clause ∷ []) (map (λ (s : Step). s.clause) rest))

-- the clauses of well-checked steps hold where the clauses before them do
pub all_hold-steps : (values : ℕ → Bool) (vars : ℕ) (clauses : List (List ℤ)) (steps : List Step) → all_hold values clauses ≡ true → well_checked vars clauses steps ≡ true → all_hold values (clauses ++ map (λ (s : Step). s.clause) steps) ≡ true
all_hold-steps values vars clauses steps hold checked =
    list_all-append (clause_holds values) clauses (map (λ (s : Step). s.clause) steps)
    ∙ both_true hold (list_all-map (clause_holds values) (λ (s : Step). s.clause) steps ∙ steps_follow values vars clauses steps hold checked)
