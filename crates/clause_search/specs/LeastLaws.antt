-- What follows from being the least assignment.
use Rattle.std.proofs.Common.{◌≡◌, ℕ, suc, ◌≤◌, ℤ, pos, negsuc, Bool, true, false, not, ◌&&◌, leb, List, [], ◌∷◌, refl, sym, ap, ◌∙◌, inl, inr, arith}
use Rattle.std.proofs.lemmas.Bool.{leb-true, cases_lt, cases_order, both_ways}
use Rattle.std.proofs.lemmas.List.{ext_get_or}
use Rattle.std.specs.List.{list_all}
use Rattle.refute_check.specs.Clauses.{variable_of, is_literal, names_variable, is_clause, literal_holds, clause_holds, all_hold}
use Rattle.refute_check.specs.StepLaws.{left_true, right_true}
use Rattle.clause_search.specs.Least.{assignment, AgreeUpTo, IsLesserAt, IsNoGreater, LeastOnFirstLaw, OneLeastLaw, VariablesLaw}

no_greater_on_first : (vars count : ℕ) (one other : ℕ → Bool) → count ≤ vars → IsNoGreater vars one other → IsNoGreater count one other
no_greater_on_first vars count one other within (inl same) = inl (record { each = λ variable some below. same.each variable some (omega arith) })
no_greater_on_first vars count one other within (inr at) = elim (cases_lt count at.0) [
  | inl later ↦ inl (record { each = λ variable some below. at.2.same.each variable some (omega arith) })
  | inr first ↦ inr (at.0, first, at.2)
]

pub least_on_first : LeastOnFirstLaw
least_on_first vars count clauses values within least other holds =
    no_greater_on_first vars count (assignment values) other within (least.least other holds)

-- of two assignments that differ not both are the lesser
lesser_once : (one other : ℕ → Bool) (variable earlier : ℕ) → IsLesserAt variable one other → IsLesserAt earlier other one → ⊥
lesser_once one other variable earlier first second = elim (cases_order variable earlier) [
  | inl same ↦ let there : one variable ≡ true = rw same second.on in both_ways (one variable) first.off there
  | inr apart ↦ elim apart [
    | inl before ↦ let agree : other variable ≡ one variable = second.same.each variable first.numbered (omega arith) in both_ways (one variable) first.off (sym agree ∙ first.on)
    | inr after ↦ let agree : one earlier ≡ other earlier = first.same.each earlier second.numbered (omega arith) in both_ways (other earlier) second.off (sym agree ∙ second.on)
  ]
]

agree_either_way : (vars : ℕ) (one other : ℕ → Bool) → IsNoGreater vars one other → IsNoGreater vars other one → AgreeUpTo vars one other
agree_either_way vars one other (inl same) back = same
agree_either_way vars one other (inr at) (inl same) = record { each = λ variable some within. sym (same.each variable some within) }
agree_either_way vars one other (inr at) (inr back) = absurd (lesser_once one other at.0 back.0 at.2 back.2)

pub one_least : OneLeastLaw
one_least vars clauses values others first second =
    let agree = agree_either_way vars (assignment values) (assignment others) (first.least (assignment others) second.satisfies) (second.least (assignment values) first.satisfies) in
    let sized = first.sized in
    ext_get_or false values others (first.sized ∙ sym second.sized) (λ index within. agree.each (suc index) (omega arith) (omega arith))

module _ (vars : ℕ) (one other : ℕ → Bool) (agree : AgreeUpTo vars one other) where
  same_literal : (literal : ℤ) → is_literal vars literal ≡ true → literal_holds one literal ≡ literal_holds other literal
  same_literal (pos n) is = agree.each n (leb-true 1 n (left_true (leb 1 n) (leb n vars) is)) (leb-true n vars (right_true (leb 1 n) (leb n vars) is))
  same_literal (negsuc n) is = ap not (agree.each (suc n) (leb-true 1 (suc n) (left_true (leb 1 (suc n)) (leb (suc n) vars) is)) (leb-true (suc n) vars (right_true (leb 1 (suc n)) (leb (suc n) vars) is)))

  same_clause : (clause : List ℤ) → is_clause vars clause ≡ true → clause_holds one clause ≡ clause_holds other clause
  same_clause [] formed = refl
  same_clause (first ∷ rest) formed =
      let front = left_true (is_literal vars first && not (names_variable rest (variable_of first))) (is_clause vars rest) formed in
      let later = right_true (is_literal vars first && not (names_variable rest (variable_of first))) (is_clause vars rest) formed in
      rw (same_literal first (left_true (is_literal vars first) (not (names_variable rest (variable_of first))) front), same_clause rest later) refl

  same_clauses : (clauses : List (List ℤ)) → list_all (is_clause vars) clauses ≡ true → all_hold one clauses ≡ all_hold other clauses
  same_clauses [] formed = refl
  same_clauses (first ∷ rest) formed =
      rw (same_clause first (left_true (is_clause vars first) (list_all (is_clause vars) rest) formed), same_clauses rest (right_true (is_clause vars first) (list_all (is_clause vars) rest) formed)) refl

pub by_variables : VariablesLaw
by_variables vars clauses one other formed agree = same_clauses vars one other agree clauses formed
