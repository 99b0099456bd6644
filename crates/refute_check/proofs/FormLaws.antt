-- Taking the literals of a clause as false, one after another, tells whether it is of the form.
use Rattle.std.proofs.Common.{◌≡◌, ℕ, ◌+◌, ◌-◌, ◌<◌, ◌≤◌, ℤ, Bool, true, false, not, ◌&&◌, ◌||◌, cond, eqb, leb, List, [], ◌∷◌, length, get_or, set, replicate, Option, Some, None, is_none, All, refl, sym, ap, ◌∙◌, arith, inl, inr}
use Rattle.std.proofs.Math.Bool.{and-false, and-true}
use Rattle.std.proofs.lemmas.Bool.{false≢true, cases_eq, leb-true}
use Rattle.std.proofs.lemmas.Bool.Decides.{nat_tests}
use Rattle.std.proofs.lemmas.List.{get_or-set_same, get_or-set_other, length-set}
use Rattle.std.proofs.lemmas.List.Elements.{All-head, All-tail, All-nil, All-cons}
use Rattle.std.specs.List.{list_all}
use Rattle.std.proofs.lemmas.List.{length-replicate}
use Rattle.std.specs.Cmp.Derive.{both_true}
use Rattle.refute_check.specs.StepLaws.{left_true, right_true, get_or-replicate_None}
use Rattle.refute_check.specs.declared.marks.Mark.{Mark}
use Rattle.refute_check.specs.Clauses.{variable_of, is_positive, is_literal, names_variable, is_clause}
use Rattle.refute_check.specs.Steps.{no_values, literal_of, value_of, taken_false, all_taken_false}
use Rattle.refute_check.specs.Marks.{marked, values_at, UpTo, taken}

-- no variable of the clause has a value
abbrev all_open : List (Option Bool) → List ℤ → Bool
all_open values clause = list_all (λ literal. is_none (value_of values literal)) clause

marked_earlier : (number : ℕ) (mark : Mark) → mark.number < number → marked number mark ≡ None
marked_earlier number mark earlier = grind (arith, nat_tests)

-- marks of earlier clauses say nothing
fresh_values : (number : ℕ) (marks : List Mark) → 0 < number → All (λ (mark : Mark). mark.number ≤ number - 1) marks → values_at number marks ≡ replicate (length marks) None
fresh_values number [] some earlier = refl
fresh_values number (first ∷ rest) some earlier =
    let head = All-head (λ (mark : Mark). mark.number ≤ number - 1) first rest earlier in
    rw (marked_earlier number first (omega arith), fresh_values number rest some (All-tail (λ (mark : Mark). mark.number ≤ number - 1) first rest earlier))

open_literal : (positive : Bool) (value : Option Bool) → is_none (literal_of positive value) ≡ is_none value
open_literal positive None = refl
open_literal positive (Some value) = refl

-- once a literal is false, the literals of its variable have a value
open_after : (values : List (Option Bool)) (first other : ℤ) → variable_of first < length values → is_none (value_of (taken_false values first) other) ≡ (is_none (value_of values other) && not (eqb (variable_of other) (variable_of first)))
open_after values first other within =
    let value : Option Bool = Some (not (is_positive first)) in
    let after = open_literal (is_positive other) (get_or (set values (variable_of first) value) (variable_of other) None) in
    let before = open_literal (is_positive other) (get_or values (variable_of other) None) in
    elim (cases_eq (variable_of other) (variable_of first)) [
      | inl same ↦
          let here : get_or (set values (variable_of first) value) (variable_of other) None ≡ value = rw same (get_or-set_same values (variable_of first) value None within) in
          let test : eqb (variable_of other) (variable_of first) ≡ true = grind (arith, nat_tests) in
          after ∙ ap is_none here ∙ rw test (sym (and-false (is_none (value_of values other))))
      | inr apart ↦
          let there = get_or-set_other values (variable_of first) (variable_of other) value None apart in
          let test : eqb (variable_of other) (variable_of first) ≡ false = grind (arith, nat_tests) in
          after ∙ ap is_none there ∙ sym before ∙ rw test (sym (and-true (is_none (value_of values other))))
    ]

mixed : (a e r n : Bool) → (a && not e && (r && not n)) ≡ (a && r && not (e || n))
mixed false e r n = refl
mixed true false false n = refl
mixed true false true n = refl
mixed true true r n = sym (and-false r)

all_open_after : (values : List (Option Bool)) (first : ℤ) (rest : List ℤ) → variable_of first < length values → all_open (taken_false values first) rest ≡ (all_open values rest && not (names_variable rest (variable_of first)))
all_open_after values first [] within = refl
all_open_after values first (second ∷ rest) within =
    rw (open_after values first second within, all_open_after values first rest within)
    (mixed (is_none (value_of values second)) (eqb (variable_of second) (variable_of first)) (all_open values rest) (names_variable rest (variable_of first)))

regrouped : {X : Type 0} (literal opened apart formed others : Bool) (x y : X) → cond (literal && opened) (cond (formed && (others && apart)) x y) y ≡ cond (literal && apart && formed && (opened && others)) x y
regrouped false opened apart formed others x y = refl
regrouped true false apart formed others x y = rw (and-false (apart && formed))
regrouped true true false false others x y = refl
regrouped true true false true true x y = refl
regrouped true true false true false x y = refl
regrouped true true true false others x y = refl
regrouped true true true true true x y = refl
regrouped true true true true false x y = refl

literal_within : (vars : ℕ) (literal : ℤ) → is_literal vars literal ≡ true → variable_of literal ≤ vars
literal_within vars literal is = leb-true (variable_of literal) vars (right_true (leb 1 (variable_of literal)) (leb (variable_of literal) vars) is)

abbrev Formed : ℕ → List (Option Bool) → List ℤ → Type 0
Formed vars values clause = taken vars values clause ≡ cond (is_clause vars clause && all_open values clause) (Some (all_taken_false values clause)) None

formed_more : (vars : ℕ) (values : List (Option Bool)) (first : ℤ) (rest : List ℤ) → length values ≡ vars + 1 → Formed vars (taken_false values first) rest → (literal : Bool) → is_literal vars first ≡ literal → Formed vars values (first ∷ rest)
formed_more vars values first rest sized formed false is = rw is refl
formed_more vars values first rest sized formed true is =
    let within = literal_within vars first is in
    rw (formed, all_open_after values first rest (omega arith))
    (regrouped (is_literal vars first) (is_none (value_of values first)) (not (names_variable rest (variable_of first))) (is_clause vars rest) (all_open values rest) (Some (all_taken_false (taken_false values first) rest)) None)

taken_formed : (vars : ℕ) (values : List (Option Bool)) (clause : List ℤ) → length values ≡ vars + 1 → Formed vars values clause
taken_formed vars values [] sized = refl
taken_formed vars values (first ∷ rest) sized =
    let sized_after = length-set values (variable_of first) (Some (not (is_positive first))) ∙ sized in
    formed_more vars values first rest sized (taken_formed vars (taken_false values first) rest sized_after) (is_literal vars first) refl

open_at_first : (vars : ℕ) (clause : List ℤ) → all_open (no_values vars) clause ≡ true
open_at_first vars [] = refl
open_at_first vars (first ∷ rest) =
    both_true (open_literal (is_positive first) (get_or (no_values vars) (variable_of first) None) ∙ ap is_none (get_or-replicate_None (vars + 1) (variable_of first))) (open_at_first vars rest)

same_choice : {X : Type 0} (formed result : Bool) (x y : X) → cond formed (Some x) None ≡ cond result (Some y) None → (formed ≡ result) × (result ≡ true → y ≡ x)
same_choice true true x y is = (refl, λ _. cc)
same_choice true false x y is = cc
same_choice false true x y is = cc
same_choice false false x y is = (refl, λ e. absurd (false≢true e))

pub clause_formed : (vars number : ℕ) (marks after : List Mark) (clause : List ℤ) (result : Bool) → length marks ≡ vars + 1 → 0 < number → UpTo (number - 1) marks → taken vars (values_at number marks) clause ≡ cond result (Some (values_at number after)) None → (is_clause vars clause ≡ result) × (result ≡ true → values_at number after ≡ all_taken_false (no_values vars) clause)
clause_formed vars number marks after clause result sized some earlier is =
    let nothing : values_at number marks ≡ no_values vars = fresh_values number marks some earlier.each ∙ ap (λ (n : ℕ). replicate n None) sized in
    let formed = taken_formed vars (no_values vars) clause (length-replicate (vars + 1) None) in
    let simple : taken vars (no_values vars) clause ≡ cond (is_clause vars clause) (Some (all_taken_false (no_values vars) clause)) None =
    formed ∙ ap (λ (b : Bool). cond b (Some (all_taken_false (no_values vars) clause)) None) (ap (λ (b : Bool). is_clause vars clause && b) (open_at_first vars clause) ∙ and-true (is_clause vars clause)) in
    same_choice (is_clause vars clause) result (all_taken_false (no_values vars) clause) (values_at number after) (sym simple ∙ ap (λ (values : List (Option Bool)). taken vars values clause) (sym nothing) ∙ is)

-- a clause of the form is over the variables
pub clause_over : (vars : ℕ) (clause : List ℤ) → is_clause vars clause ≡ true → All (λ (literal : ℤ). variable_of literal ≤ vars) clause
clause_over vars [] is = All-nil (λ (literal : ℤ). variable_of literal ≤ vars)
clause_over vars (first ∷ rest) is =
    let first_two = left_true (is_literal vars first && not (names_variable rest (variable_of first))) (is_clause vars rest) is in
    All-cons (λ (literal : ℤ). variable_of literal ≤ vars) first rest (literal_within vars first (left_true (is_literal vars first) (not (names_variable rest (variable_of first))) first_two)) (clause_over vars rest (right_true (is_literal vars first && not (names_variable rest (variable_of first))) (is_clause vars rest) is))
