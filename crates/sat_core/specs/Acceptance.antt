-- What a checker answers where it is given the clauses and the steps of a refutation one by one, and then asked for the end.
use Rattle.std.specs.Prelude.{◌≡◌, ℕ, ◌+◌, ◌≤◌, ℤ, true, false, List, [], ◌∷◌, length, None}
use Rattle.std.specs.List.{sum_by}
use Rattle.refute_check.specs.Refutations.{Step, IsRefutation}
use Rattle.refute_check.specs.Entries.{entry}
use Rattle.refute_check.specs.Progress.{Progress, begun, with_entry, refusal_by, given_fault, derived_fault, end_fault}

-- there is room for one more clause
pub record HasRoom (progress : Progress) (clause : List ℤ) : Type 0 where
  pub for_clause : 1 ≤ progress.spare_clauses
  pub for_literals : length clause ≤ progress.spare_literals

-- Each step may be given, and isn't refused, and nor is the end.
abbrev pub StepsAccepted : Progress → List Step → Type 0
StepsAccepted progress [] = refusal_by progress (end_fault progress) ≡ None
StepsAccepted progress (first ∷ rest) =
    HasRoom progress first.clause × (refusal_by progress (derived_fault progress first.clause first.hints) ≡ None) × StepsAccepted (with_entry progress (entry first.clause true)) rest

-- Each given clause may be given, and isn't refused, and nor are the steps and the end after them.
abbrev pub AllAccepted : Progress → List (List ℤ) → List Step → Type 0
AllAccepted progress [] steps = StepsAccepted progress steps
AllAccepted progress (first ∷ rest) steps =
    HasRoom progress first × (refusal_by progress (given_fault progress first) ≡ None) × AllAccepted (with_entry progress (entry first false)) rest steps

-- A checker that was made with room for them refuses nothing of a refutation.
abbrev pub AcceptanceLaw : Type 0
AcceptanceLaw =
    (vars clauses literals : ℕ) (given : List (List ℤ)) (steps : List Step) → IsRefutation vars given steps → length given + length steps ≤ clauses → sum_by length given + sum_by (λ step. length step.clause) steps ≤ literals → AllAccepted (begun vars clauses literals) given steps
