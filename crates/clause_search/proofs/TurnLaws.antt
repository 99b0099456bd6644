-- What a turn of the search comes to.
use Rattle.std.proofs.Common.{◌≡◌, ℕ, zero, suc, ◌+◌, ◌-◌, ◌<◌, ◌≤◌, ℤ, pos, negsuc, Bool, true, false, not, ◌&&◌, ◌||◌, ◌⊎◌, List, [], ◌∷◌, ◌++◌, length, get_or, map, take, drop, Option, None, Some, is_none, unwrap_or, IsSomeAnd, slice_get, refl, sym, ap, ◌∙◌, subst, inl, inr, arith}
use Rattle.std.proofs.lemmas.Bool.{cases_Bool, false≢true, false_from_ne_true, le-leb, not-false, or_from, or_parts, or_right}
use Rattle.std.proofs.lemmas.List.{map_push, take-append-drop, get_or-drop, get_or-map, length-drop, length-map, length-replicate, length-set}
use Rattle.std.proofs.lemmas.List.Folds.{list_any-append}
use Rattle.std.proofs.lemmas.Option.{none-some, same_Some, slice_get-get_or, slice_get_within}
use Rattle.std.specs.Cmp.Derive.{both_true}
use Rattle.std.specs.List.{list_all, list_any}
use Rattle.refute_check.specs.Clauses.{variable_of, is_positive, is_literal, names_variable, is_clause, literal_holds, clause_holds, all_hold}
use Rattle.refute_check.specs.Refutations as refutations
use Rattle.refute_check.specs.Refutations.{IsRefutation, has_no_literals, well_checked}
use Rattle.refute_check.specs.Steps.{Judgement, no_values, literal_of, value_of, is_false, taken_true, taken_false, all_taken_false, all_false, clause_at, hint_judgement, hint_fault, hints_fault, step_fault}
use Rattle.refute_check.specs.StepLaws.{Agrees, left_true, right_true, all_taken_false-agrees, no_values-agrees, well_checked-append, all_hold-steps}
use Rattle.clause_search.specs.Least.{assignment, IsLesserAt, IsNoGreater, IsLeast}
use Rattle.clause_search.specs.declared.answers.Step.{Step}
use Rattle.clause_search.specs.Answers.{step_of, steps_of}
use Rattle.clause_search.specs.Following.{numbered}
use Rattle.clause_search.specs.Known.{Known, AreFollowed, IsRefutedAt}
use Rattle.clause_search.specs.Searches.{IsDue, AreDue, IsSearch, AreValued, IsFirstOpen}
use Rattle.clause_search.proofs.FollowingLaws.{judgement-false, hints_fault-followed, length-followed, followed-agrees, followed-keeps}
use Rattle.clause_search.proofs.NumberLaws.{clause_at-given}
use Rattle.clause_search.proofs.DecisionLaws.{all_positive-due, literal_some, literal_within, is_clause-push, is_clause-front, named_numbers, decided_false, positive_holds, clause_holds-off, AreDue-push, AreDue-front, first_literal, rest_clause}

length-all_taken_false : (values : List (Option Bool)) (clause : List ℤ) → length (all_taken_false values clause) ≡ length values
length-all_taken_false values [] = refl
length-all_taken_false values (first ∷ rest) = length-all_taken_false (taken_false values first) rest ∙ length-set values (variable_of first) (Some (not (is_positive first)))

one_value : (known : Option Bool) (one other : Bool) → is_none known ≡ false → ((value : Bool) → known ≡ Some value → one ≡ value) → ((value : Bool) → known ≡ Some value → other ≡ value) → one ≡ other
one_value None one other is first second = absurd (false≢true (sym is))
one_value (Some value) one other is first second = first value refl ∙ sym (second value refl)

some_value : (known : Option Bool) → is_none known ≡ false → known ≡ Some (unwrap_or known false)
some_value None is = absurd (false≢true (sym is))
some_value (Some value) is = refl

neither_true : (a b : Bool) → (not a && not b) ≡ not (a || b)
neither_true true b = refl
neither_true false b = refl

some_false : (a b : Bool) → (not a || not b) ≡ not (a && b)
some_false true b = refl
some_false false b = refl

still_off : (values : ℕ → Bool) (before : List ℤ) (first : ℤ) → clause_holds values before ≡ false → literal_holds values first ≡ false → clause_holds values (before ++ first ∷ []) ≡ false
still_off values before first off here =
    list_any-append (literal_holds values) before (first ∷ []) ∙ or_from (clause_holds values before) (literal_holds values first || false) off (or_from (literal_holds values first) false here refl)

-- once a step is added
pub steps_of-push : (before after : List Step) (step : Step) → after ≡ before ++ step ∷ [] → steps_of after ≡ steps_of before ++ step_of step ∷ []
steps_of-push before after step added = ap steps_of added ∙ map_push step_of before step

pub no_last : {X : Type 0} (xs : List X) → slice_get xs (length xs - 1) ≡ None → xs ≡ []
no_last [] none = refl
no_last (first ∷ rest) none = absurd (none-some (get_or (first ∷ rest) (length (first ∷ rest) - 1) first) (sym none ∙ slice_get-get_or (first ∷ rest) (length (first ∷ rest) - 1) first (omega arith)))

-- a step for literals that lead to a clause that is false
pub step_fine : (vars : ℕ) (clauses : List (List ℤ)) (decisions : List ℤ) (known : Known) (number : ℕ) → is_clause vars decisions ≡ true → AreFollowed clauses (all_taken_false (no_values vars) decisions) known → IsRefutedAt clauses known number → step_fault vars clauses decisions (known.hints ++ number ∷ []) ≡ None
step_fine vars clauses decisions known number formed follows refuted =
    let passed = hints_fault-followed clauses (all_taken_false (no_values vars) decisions) known.values known.hints (number ∷ []) follows.follow in
    rw formed (passed ∙ ap (λ (j : Judgement). hint_fault j (λ literal. hints_fault clauses (taken_true known.values literal) []) []) refuted.judged)

module _ (vars : ℕ) (given : List (List ℤ)) (steps : List refutations.Step) (decisions : List ℤ) (searching : IsSearch vars given steps decisions) (step : refutations.Step) (fine : step_fault vars (numbered given steps) step.clause step.hints ≡ None) where
  checked_more : well_checked vars given (steps ++ step ∷ []) ≡ true
  checked_more = well_checked-append vars given steps step ∙ both_true searching.checked (ap is_none fine)

  -- the last decisions are taken back
  pub taken_back : (count : ℕ) → IsSearch vars given (steps ++ step ∷ []) (take count decisions)
  taken_back count =
      let parts : decisions ≡ take count decisions ++ drop count decisions = sym (take-append-drop count decisions) in
      record {
        formed = is_clause-front vars (take count decisions) (drop count decisions) (subst (λ (ds : List ℤ). is_clause vars ds ≡ true) parts searching.formed);
        checked = checked_more;
        due = AreDue-front given [] (take count decisions) (drop count decisions) (subst (λ (ds : List ℤ). AreDue given [] ds) parts searching.due);
      }

  -- there are none
  pub refutation : list_all (is_clause vars) given ≡ true → step.clause ≡ [] → IsRefutation vars given (steps ++ step ∷ [])
  refutation formed none = record {
    formed = formed;
    checked = checked_more;
    ended =
        list_any-append (λ (s : refutations.Step). has_no_literals s.clause) steps (step ∷ [])
        ∙ or_right (list_any (λ (s : refutations.Step). has_no_literals s.clause) steps) (has_no_literals step.clause || false) (rw none refl);
  }

module _ (vars : ℕ) (given : List (List ℤ)) (steps : List refutations.Step) (decisions : List ℤ) (known : Known) (searching : IsSearch vars given steps decisions) (follows : AreFollowed (numbered given steps) (all_taken_false (no_values vars) decisions) known) where
  agrees_with_known : (one : ℕ → Bool) → all_hold one given ≡ true → clause_holds one decisions ≡ false → Agrees one known.values
  agrees_with_known one hold off =
      followed-agrees one (numbered given steps) (all_hold-steps one vars given steps hold searching.checked) (all_taken_false (no_values vars) decisions) known.values known.hints (all_taken_false-agrees one (no_values vars) decisions (no_values-agrees one vars) off) follows.follow

  known_count : length known.values ≡ vars + 1
  known_count =
      length-followed (numbered given steps) (all_taken_false (no_values vars) decisions) known.values known.hints follows.follow
      ∙ length-all_taken_false (no_values vars) decisions
      ∙ length-replicate {A = Option Bool} (vars + 1) None

  decided_off : (variable : ℕ) → names_variable decisions variable ≡ true → get_or known.values variable None ≡ Some false
  decided_off variable named =
      followed-keeps (numbered given steps) (all_taken_false (no_values vars) decisions) known.values known.hints variable false follows.follow (decided_false vars decisions variable searching.formed (all_positive-due given [] decisions searching.due) named)

  -- the next decision
  module _ (variable : ℕ) (open_first : IsFirstOpen known.values variable) where
    next_due : IsDue given decisions (pos variable)
    next_due = record {
      positive = refl;
      forced = λ one other hold_one hold_other off_one off_other earlier some below.
          one_value (get_or known.values earlier None) (one earlier) (other earlier) (open_first.earlier.each earlier some below) (agrees_with_known one hold_one off_one earlier) (agrees_with_known other hold_other off_other earlier);
    }

    pub next_within : variable ≤ vars
    next_within = let count = known_count in let within = open_first.within in omega arith

    unnamed : names_variable decisions variable ≡ false
    unnamed = false_from_ne_true (names_variable decisions variable) (λ named. none-some false (sym open_first.valueless ∙ decided_off variable named))

    pub decided : IsSearch vars given steps (decisions ++ pos variable ∷ [])
    decided = record {
      formed = is_clause-push vars decisions (pos variable) searching.formed (both_true (le-leb 1 variable open_first.numbered) (le-leb variable vars next_within)) unnamed;
      checked = searching.checked;
      due = AreDue-push given [] decisions (pos variable) searching.due next_due;
    }

-- once all variables have values
abbrev pub found_values : List (Option Bool) → List Bool
found_values values = map (λ value. unwrap_or value false) (drop 1 values)

module _ (vars : ℕ) (values : List (Option Bool)) (sized : length values ≡ vars + 1) (valued : AreValued values (length values)) where
  complete : (variable : ℕ) → 1 ≤ variable → variable ≤ vars → get_or values variable None ≡ Some (assignment (found_values values) variable)
  complete zero some within = absurd (omega arith)
  complete (suc index) some within =
      let rest = drop 1 values in
      let below : index < length rest = omega (arith, length-drop 1 values) in
      let read : get_or (found_values values) index false ≡ unwrap_or (get_or rest index None) false = get_or-map (λ (value : Option Bool). unwrap_or value false) rest index None false below in
      let there : get_or rest index None ≡ get_or values (suc index) None = get_or-drop 1 values index None ∙ ap (λ (i : ℕ). get_or values i None) (omega arith) in
      some_value (get_or values (suc index) None) (valued.each (suc index) some (omega arith))
      ∙ ap Some (sym (read ∙ ap (λ (value : Option Bool). unwrap_or value false) there))

  literal_value : (literal : ℤ) → is_literal vars literal ≡ true → is_false (value_of values literal) ≡ not (literal_holds (assignment (found_values values)) literal)
  literal_value (pos n) is = ap (λ (known : Option Bool). is_false (literal_of true known)) (complete n (literal_some vars (pos n) is) (literal_within vars (pos n) is))
  literal_value (negsuc n) is = ap (λ (known : Option Bool). is_false (literal_of false known)) (complete (suc n) (literal_some vars (negsuc n) is) (literal_within vars (negsuc n) is))

  clause_value : (clause : List ℤ) → is_clause vars clause ≡ true → all_false values clause ≡ not (clause_holds (assignment (found_values values)) clause)
  clause_value [] formed = refl
  clause_value (first ∷ rest) formed =
      rw (literal_value first (first_literal vars first rest formed), clause_value rest (rest_clause vars first rest formed)) (neither_true (literal_holds (assignment (found_values values)) first) (clause_holds (assignment (found_values values)) rest))

  any_false : (clauses : List (List ℤ)) → list_all (is_clause vars) clauses ≡ true → list_any (all_false values) clauses ≡ not (all_hold (assignment (found_values values)) clauses)
  any_false [] formed = refl
  any_false (first ∷ rest) formed =
      rw (clause_value first (left_true (is_clause vars first) (list_all (is_clause vars) rest) formed), any_false rest (right_true (is_clause vars first) (list_all (is_clause vars) rest) formed)) (some_false (clause_holds (assignment (found_values values)) first) (all_hold (assignment (found_values values)) rest))

  satisfies : (clauses : List (List ℤ)) → list_all (is_clause vars) clauses ≡ true → list_any (all_false values) clauses ≡ false → all_hold (assignment (found_values values)) clauses ≡ true
  satisfies clauses formed none = not-false (all_hold (assignment (found_values values)) clauses) (sym (any_false clauses formed) ∙ none)

-- Of two assignments that satisfy the clauses, one is false on all decisions. So the other is too, or it is true at one of
-- them, and before the first of these they agree.
module _ (vars : ℕ) (given : List (List ℤ)) (one other : ℕ → Bool) (one_holds : all_hold one given ≡ true) (other_holds : all_hold other given ≡ true) where
  lesser : (before : List ℤ) (first : ℤ) → IsDue given before first → is_literal vars first ≡ true → clause_holds one before ≡ false → clause_holds other before ≡ false → literal_holds one first ≡ false → literal_holds other first ≡ true → (variable : ℕ) × (variable ≤ vars) × IsLesserAt variable one other
  lesser before first due is one_off other_off off on = (
    variable_of first,
    literal_within vars first is,
    record {
      numbered = literal_some vars first is;
      same = record { each = λ variable some below. due.forced one other one_holds other_holds one_off other_off variable some (let first_some = literal_some vars first is in omega arith) };
      off = sym (positive_holds one first due.positive) ∙ off;
      on = sym (positive_holds other first due.positive) ∙ on;
    },
  )

  off_or_lesser : (before after : List ℤ) → AreDue given before after → is_clause vars after ≡ true → clause_holds one before ≡ false → clause_holds one after ≡ false → clause_holds other before ≡ false → (clause_holds other after ≡ false) ⊎ ((variable : ℕ) × (variable ≤ vars) × IsLesserAt variable one other)
  off_or_lesser before [] due formed one_off one_later other_off = inl refl
  off_or_lesser before (first ∷ rest) due formed one_off one_later other_off =
      let one_both = or_parts (literal_holds one first) (clause_holds one rest) one_later in
      elim (cases_Bool (literal_holds other first)) [
        | inl on ↦ inr (lesser before first due.0 (first_literal vars first rest formed) one_off other_off one_both.0 on)
        | inr off ↦ elim (off_or_lesser (before ++ first ∷ []) rest due.1 (rest_clause vars first rest formed) (still_off one before first one_off one_both.0) one_both.1 (still_off other before first other_off off)) [
          | inl later ↦ inl (or_from (literal_holds other first) (clause_holds other rest) off later)
          | inr at ↦ inr at
        ]
      ]

-- all variables have values, and no clause is false
module _ (vars : ℕ) (given : List (List ℤ)) (steps : List refutations.Step) (decisions : List ℤ) (known : Known) (formed : list_all (is_clause vars) given ≡ true) (searching : IsSearch vars given steps decisions) (follows : AreFollowed (numbered given steps) (all_taken_false (no_values vars) decisions) known) (valued : AreValued known.values (length known.values)) (none_false : list_any (all_false known.values) given ≡ false) where
  sized : length known.values ≡ vars + 1
  sized = known_count vars given steps decisions known searching follows

  holds : all_hold (assignment (found_values known.values)) given ≡ true
  holds = satisfies vars known.values sized valued given formed none_false

  off : clause_holds (assignment (found_values known.values)) decisions ≡ false
  off =
      clause_holds-off (assignment (found_values known.values)) decisions (all_positive-due given [] decisions searching.due) (λ variable named.
      let numbers = named_numbers vars decisions variable searching.formed named in
      same_Some (assignment (found_values known.values) variable) false (sym (complete vars known.values sized valued variable numbers.0 numbers.1) ∙ decided_off vars given steps decisions known searching follows variable named))

  no_greater : (other : ℕ → Bool) → all_hold other given ≡ true → IsNoGreater vars (assignment (found_values known.values)) other
  no_greater other other_holds = elim (off_or_lesser vars given (assignment (found_values known.values)) other holds other_holds [] decisions searching.due searching.formed refl off refl) [
    | inl other_off ↦ inl (record {
      each = λ variable some within. sym (agrees_with_known vars given steps decisions known searching follows other other_holds other_off variable (assignment (found_values known.values) variable) (complete vars known.values sized valued variable some within));
    })
    | inr at ↦ inr at
  ]

  pub least_found : (values : List Bool) → values ≡ found_values known.values → IsLeast vars given values
  least_found values is = subst (λ (v : List Bool). IsLeast vars given v) (sym is) (record {
    sized = length-map (drop 1 known.values) (λ (value : Option Bool). unwrap_or value false) ∙ length-drop 1 known.values ∙ (let count = sized in omega arith);
    satisfies = holds;
    least = no_greater;
  })

-- a given clause whose literals are all false
module _ (given : List (List ℤ)) (steps : List refutations.Step) (known : Known) (index number : ℕ) (is : number ≡ index + 1) where
  false_there : (found : Option (List ℤ)) → slice_get given index ≡ found → IsSomeAnd found (λ clause. all_false known.values clause ≡ true) → IsRefutedAt (numbered given steps) known number
  false_there None at never = absurd never
  false_there (Some clause) at all =
      let next : number ≡ suc index = omega arith in
      let here : clause_at (numbered given steps) number ≡ Some clause = ap (clause_at (numbered given steps)) next ∙ clause_at-given given steps index (slice_get_within given index clause at) ∙ at in
      record { judged = ap (hint_judgement known.values) here ∙ judgement-false known.values clause all }

  pub refuted_there : IsSomeAnd (slice_get given index) (λ clause. all_false known.values clause ≡ true) → IsRefutedAt (numbered given steps) known number
  refuted_there all = false_there (slice_get given index) refl all
