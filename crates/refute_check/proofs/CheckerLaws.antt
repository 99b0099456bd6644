-- What a call finds, and what the accepted clauses say.
use Rattle.std.proofs.Common.{◌≡◌, ℕ, ℤ, Bool, true, false, ◌&&◌, ◌||◌, cond, List, [], ◌∷◌, ◌++◌, Option, Some, None, is_some, refl, sym, ap, ◌∙◌}
use Rattle.std.proofs.Math.Bool.{or-false}
use Rattle.std.proofs.lemmas.Bool.{false≢true, false_from_ne_true}
use Rattle.std.proofs.lemmas.List.{map-append}
use Rattle.std.proofs.lemmas.List.Folds.{list_all-append, list_any-append}
use Rattle.std.specs.Cmp.Derive.{both_true}
use Rattle.refute_check.specs.declared.refusals.CheckKind.{CheckKind}
use Rattle.refute_check.specs.declared.refusals.CheckKind.TheVariants.{Syntax}
use Rattle.refute_check.specs.Clauses.{is_clause, clause_holds, all_hold}
use Rattle.refute_check.specs.Steps.{no_values, all_taken_false, hints_fault}
use Rattle.refute_check.specs.Refutations.{has_no_literals}
use Rattle.refute_check.specs.Entries.{Entry, entry, clauses_of, given_of, has_empty_step}
use Rattle.refute_check.specs.Progress.{fault_in}
use Rattle.refute_check.specs.StepLaws.{left_true, right_true, step_follows}
use Rattle.refute_check.proofs.Soundness.{empty_or_later}

module _ (vars : ℕ) (clauses : List (List ℤ)) (clause : List ℤ) where
  pub fault-unformed : (hints : Option (List ℕ)) → is_clause vars clause ≡ false → Some Syntax ≡ fault_in vars clauses clause hints
  fault-unformed None is = rw is refl
  fault-unformed (Some hints) is = rw is refl

  pub fault-given : is_clause vars clause ≡ true → None ≡ fault_in vars clauses clause None
  fault-given is = rw is refl

  pub fault-derived : (hints : List ℕ) → is_clause vars clause ≡ true → hints_fault clauses (all_taken_false (no_values vars) clause) hints ≡ fault_in vars clauses clause (Some hints)
  fault-derived hints is = rw is refl

  formed_choice : (formed : Bool) (fault : Option CheckKind) → cond formed fault (Some Syntax) ≡ None → formed ≡ true
  formed_choice true fault fine = refl
  formed_choice false fault fine = cc

  pub formed_from_fine : (hints : Option (List ℕ)) → fault_in vars clauses clause hints ≡ None → is_clause vars clause ≡ true
  formed_from_fine None fine = formed_choice (is_clause vars clause) None fine
  formed_from_fine (Some hints) fine = formed_choice (is_clause vars clause) (hints_fault clauses (all_taken_false (no_values vars) clause) hints) fine

choice-append : (derived : Bool) (clause : List ℤ) (xs ys : List (List ℤ)) → cond derived (xs ++ ys) (clause ∷ xs ++ ys) ≡ cond derived xs (clause ∷ xs) ++ ys
choice-append true clause xs ys = refl
choice-append false clause xs ys = refl

given_of-append : (xs ys : List Entry) → given_of (xs ++ ys) ≡ given_of xs ++ given_of ys
given_of-append [] ys = refl
given_of-append (first ∷ rest) ys = rw (given_of-append rest ys) (choice-append first.derived first.clause (given_of rest) (given_of ys))

-- the accepted clauses follow from those that were given
abbrev pub Follow : List Entry → Type 0
Follow entries = (values : ℕ → Bool) → all_hold values (given_of entries) ≡ true → all_hold values (clauses_of entries) ≡ true

module _ (values : ℕ → Bool) where
  new_holds : (vars : ℕ) (clauses : List (List ℤ)) (clause : List ℤ) (hints : Option (List ℕ)) → fault_in vars clauses clause hints ≡ None → all_hold values clauses ≡ true → all_hold values (given_of (entry clause (is_some hints) ∷ [])) ≡ true → clause_holds values clause ≡ true
  new_holds vars clauses clause None fine old hold = left_true (clause_holds values clause) true hold
  new_holds vars clauses clause (Some hints) fine old hold = step_follows values vars clauses clause hints old fine

  not_empty : (derived : Bool) (clause : List ℤ) (later : Bool) → clause_holds values clause ≡ true → (later ≡ true → ⊥) → (derived && has_no_literals clause || later) ≡ true → ⊥
  not_empty true clause later holds none ended = empty_or_later values clause later holds none ended
  not_empty false clause later holds none ended = none ended

  none_empty : (entries : List Entry) → all_hold values (clauses_of entries) ≡ true → has_empty_step entries ≡ true → ⊥
  none_empty [] hold ended = false≢true ended
  none_empty (first ∷ rest) hold ended =
      not_empty first.derived first.clause (has_empty_step rest) (left_true (clause_holds values first.clause) (all_hold values (clauses_of rest)) hold) (none_empty rest (right_true (clause_holds values first.clause) (all_hold values (clauses_of rest)) hold)) ended

pub follow_more : (vars : ℕ) (entries : List Entry) (clause : List ℤ) (hints : Option (List ℕ)) → Follow entries → fault_in vars (clauses_of entries) clause hints ≡ None → Follow (entries ++ entry clause (is_some hints) ∷ [])
follow_more vars entries clause hints follow fine values hold =
    let added = entry clause (is_some hints) ∷ [] in
    let both : (all_hold values (given_of entries) && all_hold values (given_of added)) ≡ true =
    sym (list_all-append (clause_holds values) (given_of entries) (given_of added)) ∙ ap (all_hold values) (sym (given_of-append entries added)) ∙ hold in
    let old = follow values (left_true (all_hold values (given_of entries)) (all_hold values (given_of added)) both) in
    let new = new_holds values vars (clauses_of entries) clause hints fine old (right_true (all_hold values (given_of entries)) (all_hold values (given_of added)) both) in
    ap (all_hold values) (map-append (λ (e : Entry). e.clause) entries added) ∙ list_all-append (clause_holds values) (clauses_of entries) (clause ∷ []) ∙ both_true old (both_true new refl)

pub has_empty_step-more : (entries : List Entry) (clause : List ℤ) (derived : Bool) → has_empty_step (entries ++ entry clause derived ∷ []) ≡ (has_empty_step entries || (derived && has_no_literals clause))
has_empty_step-more entries clause derived =
    list_any-append (λ (e : Entry). e.derived && has_no_literals e.clause) entries (entry clause derived ∷ [])
    ∙ ap (λ (b : Bool). has_empty_step entries || b) (or-false (derived && has_no_literals clause))

pub unsatisfied : (entries : List Entry) → Follow entries → has_empty_step entries ≡ true → (values : ℕ → Bool) → all_hold values (given_of entries) ≡ false
unsatisfied entries follow ended values =
    false_from_ne_true (all_hold values (given_of entries)) (λ hold. none_empty values entries (follow values hold) ended)
