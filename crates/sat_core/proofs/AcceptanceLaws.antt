-- A checker with room refuses nothing of a refutation.
use Rattle.std.proofs.Common.{◌≡◌, ◌+◌, ◌≤◌, Bool, true, false, ◌&&◌, ◌||◌, ℤ, List, [], ◌∷◌, ◌++◌, length, Option, None, is_none, refl, ap, ◌∙◌, arith}
use Rattle.std.proofs.lemmas.List.{map-append, append_assoc, append-nil}
use Rattle.std.proofs.lemmas.List.Folds.{list_any-append}
use Rattle.std.proofs.lemmas.List.Sums.{sum_by-cons}
use Rattle.std.specs.List.{list_all, list_any, sum_by}
use Rattle.refute_check.specs.declared.refusals.CheckKind.{CheckKind}
use Rattle.refute_check.specs.Clauses.{is_clause}
use Rattle.refute_check.specs.Steps.{step_fault}
use Rattle.refute_check.specs.Refutations.{Step, well_checked, has_no_literals}
use Rattle.refute_check.specs.Entries.{Entry, entry, clauses_of, has_empty_step}
use Rattle.refute_check.specs.Progress.{Progress, begun, with_entry, refusal_by, given_fault, end_fault}
use Rattle.sat_core.specs.Acceptance.{StepsAccepted, AllAccepted, AcceptanceLaw}
use Rattle.refute_check.specs.StepLaws.{left_true, right_true, none_from_test}

-- nothing is wrong, and nothing was
not_refused : (progress : Progress) (fault : Option CheckKind) → progress.refusal ≡ None → fault ≡ None → refusal_by progress fault ≡ None
not_refused progress fault open_still fine = rw (open_still, fine) refl

clauses_of-more : (entries : List Entry) (added : Entry) → clauses_of (entries ++ added ∷ []) ≡ clauses_of entries ++ added.clause ∷ []
clauses_of-more entries added = map-append (λ (e : Entry). e.clause) entries (added ∷ [])

has_empty_step-more : (entries : List Entry) (step : Step) (later : Bool) → (has_empty_step (entries ++ entry step.clause true ∷ []) || later) ≡ (has_empty_step entries || (has_no_literals step.clause || later))
has_empty_step-more entries step later =
    ap (λ (b : Bool). b || later) (list_any-append (λ (e : Entry). e.derived && has_no_literals e.clause) entries (entry step.clause true ∷ []))
    ∙ grouped (has_empty_step entries) (has_no_literals step.clause) later where
      grouped : (a b c : Bool) → ((a || (b || false)) || c) ≡ (a || (b || c))
      grouped true b c = refl
      grouped false true c = refl
      grouped false false c = refl

or_false : (a : Bool) → (a || false) ≡ true → a ≡ true
or_false true is = refl
or_false false is = is

steps_accepted : (progress : Progress) (steps : List Step) → progress.refusal ≡ None → well_checked progress.vars (clauses_of progress.entries) steps ≡ true → (has_empty_step progress.entries || list_any (λ (step : Step). has_no_literals step.clause) steps) ≡ true → length steps ≤ progress.spare_clauses → sum_by (λ (step : Step). length step.clause) steps ≤ progress.spare_literals → StepsAccepted progress steps
steps_accepted progress [] fresh checked ended clauses literals =
    not_refused progress (end_fault progress) fresh (rw (or_false (has_empty_step progress.entries) ended) refl)
steps_accepted progress (first ∷ rest) fresh checked ended clauses literals =
    let fault = step_fault progress.vars (clauses_of progress.entries) first.clause first.hints in
    let later = well_checked progress.vars (clauses_of progress.entries ++ first.clause ∷ []) rest in
    let total = sum_by-cons (λ (step : Step). length step.clause) first rest in
    let next = with_entry progress (entry first.clause true) in
    let more : well_checked progress.vars (clauses_of next.entries) rest ≡ true = rw (clauses_of-more progress.entries (entry first.clause true)) (right_true (is_none fault) later checked) in (
      record { for_clause = omega arith; for_literals = omega (arith, total) },
      not_refused progress fault fresh (none_from_test fault (left_true (is_none fault) later checked)),
      steps_accepted next rest fresh more (has_empty_step-more progress.entries first (list_any (λ (step : Step). has_no_literals step.clause) rest) ∙ ended) (omega arith) (omega (arith, total)),
    )

given_formed : (progress : Progress) (clause : List ℤ) → is_clause progress.vars clause ≡ true → given_fault progress clause ≡ None
given_formed progress clause formed = rw formed refl

no_step_yet : (entries : List Entry) (clause : List ℤ) → has_empty_step entries ≡ false → has_empty_step (entries ++ entry clause false ∷ []) ≡ false
no_step_yet entries clause none = list_any-append (λ (e : Entry). e.derived && has_no_literals e.clause) entries (entry clause false ∷ []) ∙ rw none refl

all_accepted : (progress : Progress) (given : List (List ℤ)) (steps : List Step) → progress.refusal ≡ None → list_all (is_clause progress.vars) given ≡ true → well_checked progress.vars (clauses_of progress.entries ++ given) steps ≡ true → list_any (λ (step : Step). has_no_literals step.clause) steps ≡ true → length given + length steps ≤ progress.spare_clauses → sum_by length given + sum_by (λ (step : Step). length step.clause) steps ≤ progress.spare_literals → has_empty_step progress.entries ≡ false → AllAccepted progress given steps
all_accepted progress [] steps fresh formed checked ended clauses literals none =
    steps_accepted progress steps fresh (rw (append-nil (clauses_of progress.entries)) at checked) (rw none ended) (omega arith) (omega arith)
all_accepted progress (first ∷ rest) steps fresh formed checked ended clauses literals none =
    let total = sum_by-cons (length {A = ℤ}) first rest in
    let next = with_entry progress (entry first false) in
    let same_clauses : clauses_of next.entries ++ rest ≡ clauses_of progress.entries ++ first ∷ rest =
    rw (clauses_of-more progress.entries (entry first false)) (append_assoc (clauses_of progress.entries) (first ∷ []) rest) in (
      record { for_clause = omega arith; for_literals = omega (arith, total) },
      not_refused progress (given_fault progress first) fresh (given_formed progress first (left_true (is_clause progress.vars first) (list_all (is_clause progress.vars) rest) formed)),
      all_accepted next rest steps fresh (right_true (is_clause progress.vars first) (list_all (is_clause progress.vars) rest) formed) (rw same_clauses checked) ended (omega arith) (omega (arith, total)) (no_step_yet progress.entries first none),
    )

pub acceptance_law : AcceptanceLaw
acceptance_law vars clauses literals given steps refutation clause_room literal_room =
    all_accepted (begun vars clauses literals) given steps refl refutation.formed refutation.checked refutation.ended clause_room literal_room refl
