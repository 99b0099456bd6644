-- Decisions: they are a clause, each is known to be false, and each was due.
use Rattle.std.proofs.Common.{◌≡◌, ℕ, zero, suc, ◌+◌, ◌<◌, ◌≤◌, ℤ, pos, negsuc, Bool, true, false, not, ◌&&◌, ◌||◌, eqb, leb, List, [], ◌∷◌, ◌++◌, length, filter, get_or, set, Option, None, Some, refl, sym, ap, ◌∙◌, subst, inl, inr, arith}
use Rattle.std.proofs.lemmas.Bool.{false≢true, eqb-true, eqb-false, ne_eqb, leb-true, cond_both, or_cases, or_parts, or_from, or_left, or_right, eq-eqb, not-true}
use Rattle.std.proofs.lemmas.List.{append-nil, append_assoc, get_or-set_same, length-set, length-replicate}
use Rattle.std.proofs.lemmas.List.Folds.{list_any-append}
use Rattle.std.proofs.lemmas.Option.{none-some}
use Rattle.std.specs.Cmp.Derive.{both_true}
use Rattle.std.specs.List.{list_all}
use Rattle.refute_check.specs.Clauses.{variable_of, is_positive, is_literal, names_variable, is_clause, literal_holds, clause_holds}
use Rattle.refute_check.specs.Steps.{no_values, taken_false, all_taken_false}
use Rattle.refute_check.specs.StepLaws.{left_true, right_true}
use Rattle.clause_search.specs.Searches.{IsDue, AreDue}

abbrev pub all_positive : List ℤ → Bool
all_positive literals = list_all is_positive literals

-- the parts of a clause's form
module _ (vars : ℕ) (first : ℤ) (rest : List ℤ) (is : is_clause vars (first ∷ rest) ≡ true) where
  front : (is_literal vars first && not (names_variable rest (variable_of first))) ≡ true
  front = left_true (is_literal vars first && not (names_variable rest (variable_of first))) (is_clause vars rest) is

  pub first_literal : is_literal vars first ≡ true
  first_literal = left_true (is_literal vars first) (not (names_variable rest (variable_of first))) front

  pub named_once : names_variable rest (variable_of first) ≡ false
  named_once = not-true (names_variable rest (variable_of first)) (right_true (is_literal vars first) (not (names_variable rest (variable_of first))) front)

  pub rest_clause : is_clause vars rest ≡ true
  rest_clause = right_true (is_literal vars first && not (names_variable rest (variable_of first))) (is_clause vars rest) is

made_clause : (vars : ℕ) (first : ℤ) (rest : List ℤ) → is_literal vars first ≡ true → names_variable rest (variable_of first) ≡ false → is_clause vars rest ≡ true → is_clause vars (first ∷ rest) ≡ true
made_clause vars first rest literal once formed = both_true (both_true literal (ap not once)) formed

pub literal_some : (vars : ℕ) (literal : ℤ) → is_literal vars literal ≡ true → 1 ≤ variable_of literal
literal_some vars literal is = leb-true 1 (variable_of literal) (left_true (leb 1 (variable_of literal)) (leb (variable_of literal) vars) is)

pub literal_within : (vars : ℕ) (literal : ℤ) → is_literal vars literal ≡ true → variable_of literal ≤ vars
literal_within vars literal is = leb-true (variable_of literal) vars (right_true (leb 1 (variable_of literal)) (leb (variable_of literal) vars) is)

other_variable : (first literal : ℤ) (rest : List ℤ) → names_variable (first ∷ rest) (variable_of literal) ≡ false → eqb (variable_of literal) (variable_of first) ≡ false
other_variable first literal rest unnamed =
    let apart = (or_parts (eqb (variable_of first) (variable_of literal)) (names_variable rest (variable_of literal)) unnamed).0 in
    ne_eqb (variable_of literal) (variable_of first) (λ same. eqb-false (variable_of first) (variable_of literal) apart (sym same))

-- one more decision
pub is_clause-push : (vars : ℕ) (clause : List ℤ) (literal : ℤ) → is_clause vars clause ≡ true → is_literal vars literal ≡ true → names_variable clause (variable_of literal) ≡ false → is_clause vars (clause ++ literal ∷ []) ≡ true
is_clause-push vars [] literal formed is unnamed = made_clause vars literal [] is refl refl
is_clause-push vars (first ∷ rest) literal formed is unnamed =
    let once : names_variable (rest ++ literal ∷ []) (variable_of first) ≡ false =
    list_any-append (λ (l : ℤ). eqb (variable_of l) (variable_of first)) rest (literal ∷ [])
    ∙ or_from (names_variable rest (variable_of first)) (names_variable (literal ∷ []) (variable_of first)) (named_once vars first rest formed) (or_from (eqb (variable_of literal) (variable_of first)) false (other_variable first literal rest unnamed) refl) in
    made_clause vars first (rest ++ literal ∷ []) (first_literal vars first rest formed) once (is_clause-push vars rest literal (rest_clause vars first rest formed) is (or_parts (eqb (variable_of first) (variable_of literal)) (names_variable rest (variable_of literal)) unnamed).1)

-- the earlier decisions
pub is_clause-front : (vars : ℕ) (clause more : List ℤ) → is_clause vars (clause ++ more) ≡ true → is_clause vars clause ≡ true
is_clause-front vars [] more formed = refl
is_clause-front vars (first ∷ rest) more formed =
    let once : (names_variable rest (variable_of first) || names_variable more (variable_of first)) ≡ false =
    sym (list_any-append (λ (l : ℤ). eqb (variable_of l) (variable_of first)) rest more) ∙ named_once vars first (rest ++ more) formed in
    made_clause vars first rest (first_literal vars first (rest ++ more) formed) (or_parts (names_variable rest (variable_of first)) (names_variable more (variable_of first)) once).0 (is_clause-front vars rest more (rest_clause vars first (rest ++ more) formed))

pub named_numbers : (vars : ℕ) (clause : List ℤ) (variable : ℕ) → is_clause vars clause ≡ true → names_variable clause variable ≡ true → (1 ≤ variable) × (variable ≤ vars)
named_numbers vars [] variable formed named = absurd (false≢true named)
named_numbers vars (first ∷ rest) variable formed named = elim (or_cases (eqb (variable_of first) variable) (names_variable rest variable) named) [
  | inl here ↦
      let is = first_literal vars first rest formed in
      rw (← eqb-true (variable_of first) variable here) (literal_some vars first is, literal_within vars first is)
  | inr later ↦ named_numbers vars rest variable (rest_clause vars first rest formed) later
]

names_variable-filter : (test : ℤ → Bool) (clause : List ℤ) (variable : ℕ) → names_variable clause variable ≡ false → names_variable (filter test clause) variable ≡ false
names_variable-filter test [] variable unnamed = refl
names_variable-filter test (first ∷ rest) variable unnamed =
    let parts = or_parts (eqb (variable_of first) variable) (names_variable rest variable) unnamed in
    let later = names_variable-filter test rest variable parts.1 in
    cond_both (test first) (first ∷ filter test rest) (filter test rest) (λ (kept : List ℤ). names_variable kept variable ≡ false) (λ _. or_from (eqb (variable_of first) variable) (names_variable (filter test rest) variable) parts.0 later) (λ _. later)

-- some of the decisions
pub is_clause-filter : (vars : ℕ) (test : ℤ → Bool) (clause : List ℤ) → is_clause vars clause ≡ true → is_clause vars (filter test clause) ≡ true
is_clause-filter vars test [] formed = refl
is_clause-filter vars test (first ∷ rest) formed =
    let later = is_clause-filter vars test rest (rest_clause vars first rest formed) in
    cond_both (test first) (first ∷ filter test rest) (filter test rest) (λ (kept : List ℤ). is_clause vars kept ≡ true) (λ _. made_clause vars first (filter test rest) (first_literal vars first rest formed) (names_variable-filter test rest (variable_of first) (named_once vars first rest formed)) later) (λ _. later)

set_false : (values : List (Option Bool)) (i variable : ℕ) → get_or values variable None ≡ Some false → get_or (set values i (Some false)) variable None ≡ Some false
set_false [] i variable is = absurd (none-some false is)
set_false (first ∷ rest) zero zero is = refl
set_false (first ∷ rest) zero (suc variable) is = is
set_false (first ∷ rest) (suc i) zero is = is
set_false (first ∷ rest) (suc i) (suc variable) is = set_false rest i variable is

taken_positive : (values : List (Option Bool)) (literal : ℤ) → is_positive literal ≡ true → taken_false values literal ≡ set values (variable_of literal) (Some false)
taken_positive values literal is = ap (λ (b : Bool). set values (variable_of literal) (Some (not b))) is

stays_false : (values : List (Option Bool)) (decisions : List ℤ) (variable : ℕ) → all_positive decisions ≡ true → get_or values variable None ≡ Some false → get_or (all_taken_false values decisions) variable None ≡ Some false
stays_false values [] variable positive is = is
stays_false values (first ∷ rest) variable positive is =
    let head = left_true (is_positive first) (all_positive rest) positive in
    let next : get_or (taken_false values first) variable None ≡ Some false = rw (taken_positive values first head) (set_false values (variable_of first) variable is) in
    stays_false (taken_false values first) rest variable (right_true (is_positive first) (all_positive rest) positive) next

-- what is decided is false from the start
named_false : (values : List (Option Bool)) (decisions : List ℤ) (variable : ℕ) → all_positive decisions ≡ true → variable < length values → names_variable decisions variable ≡ true → get_or (all_taken_false values decisions) variable None ≡ Some false
named_false values [] variable positive within named = absurd (false≢true named)
named_false values (first ∷ rest) variable positive within named =
    let head = left_true (is_positive first) (all_positive rest) positive in
    let tail = right_true (is_positive first) (all_positive rest) positive in
    elim (or_cases (eqb (variable_of first) variable) (names_variable rest variable) named) [
      | inl here ↦
          let same = eqb-true (variable_of first) variable here in
          let next : get_or (taken_false values first) variable None ≡ Some false = rw (taken_positive values first head, same) (get_or-set_same values variable (Some false) None within) in
          stays_false (taken_false values first) rest variable tail next
      | inr later ↦ named_false (taken_false values first) rest variable tail (rw (length-set values (variable_of first) (Some (not (is_positive first)))) within) later
    ]

pub decided_false : (vars : ℕ) (decisions : List ℤ) (variable : ℕ) → is_clause vars decisions ≡ true → all_positive decisions ≡ true → names_variable decisions variable ≡ true → get_or (all_taken_false (no_values vars) decisions) variable None ≡ Some false
decided_false vars decisions variable formed positive named =
    let within = (named_numbers vars decisions variable formed named).1 in
    named_false (no_values vars) decisions variable positive (rw (length-replicate {A = Option Bool} (vars + 1) None) (omega arith)) named

pub positive_holds : (values : ℕ → Bool) (literal : ℤ) → is_positive literal ≡ true → literal_holds values literal ≡ values (variable_of literal)
positive_holds values (pos n) is = refl
positive_holds values (negsuc n) is = absurd (false≢true is)

named_here : (first : ℤ) (rest : List ℤ) → names_variable (first ∷ rest) (variable_of first) ≡ true
named_here first rest = or_left (eqb (variable_of first) (variable_of first)) (names_variable rest (variable_of first)) (eq-eqb (variable_of first) (variable_of first) refl)

named_there : (first : ℤ) (rest : List ℤ) (variable : ℕ) → names_variable rest variable ≡ true → names_variable (first ∷ rest) variable ≡ true
named_there first rest variable named = or_right (eqb (variable_of first) variable) (names_variable rest variable) named

-- an assignment that is false on the decisions
pub clause_holds-off : (values : ℕ → Bool) (decisions : List ℤ) → all_positive decisions ≡ true → ((variable : ℕ) → names_variable decisions variable ≡ true → values variable ≡ false) → clause_holds values decisions ≡ false
clause_holds-off values [] positive off = refl
clause_holds-off values (first ∷ rest) positive off =
    let here = positive_holds values first (left_true (is_positive first) (all_positive rest) positive) ∙ off (variable_of first) (named_here first rest) in
    or_from (literal_holds values first) (clause_holds values rest) here (clause_holds-off values rest (right_true (is_positive first) (all_positive rest) positive) (λ variable named. off variable (named_there first rest variable named)))

pub all_positive-due : (given : List (List ℤ)) (before after : List ℤ) → AreDue given before after → all_positive after ≡ true
all_positive-due given before [] due = refl
all_positive-due given before (first ∷ rest) due = both_true due.0.positive (all_positive-due given (before ++ first ∷ []) rest due.1)

pub AreDue-push : (given : List (List ℤ)) (before after : List ℤ) (literal : ℤ) → AreDue given before after → IsDue given (before ++ after) literal → AreDue given before (after ++ literal ∷ [])
AreDue-push given before [] literal due more = (subst (λ (b : List ℤ). IsDue given b literal) (append-nil before) more, tt)
AreDue-push given before (first ∷ rest) literal due more =
    (due.0, AreDue-push given (before ++ first ∷ []) rest literal due.1 (subst (λ (b : List ℤ). IsDue given b literal) (sym (append_assoc before (first ∷ []) rest)) more))

pub AreDue-front : (given : List (List ℤ)) (before after more : List ℤ) → AreDue given before (after ++ more) → AreDue given before after
AreDue-front given before [] more due = tt
AreDue-front given before (first ∷ rest) more due = (due.0, AreDue-front given (before ++ first ∷ []) rest more due.1)
