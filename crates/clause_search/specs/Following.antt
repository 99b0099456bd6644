-- Following hints to the values that they give.
use Rattle.std.specs.Prelude.{◌≡◌, ℕ, ℤ, Bool, List, [], ◌∷◌, ◌++◌, map, filter, Option, None, Some}
use Rattle.refute_check.specs.Refutations as refutations
use Rattle.refute_check.specs.Steps.{Judgement, false_clause, unit, neither, hint_judgement, clause_at, taken_true}

-- the given clauses and those of the steps, as they are numbered
abbrev pub numbered : List (List ℤ) → List refutations.Step → List (List ℤ)
numbered given steps = given ++ map (λ step. step.clause) steps

-- what comes of the literal that a hint makes true, or nothing where the hint makes none true
abbrev pub onward : Judgement → (ℤ → Option (List (Option Bool))) → Option (List (Option Bool))
onward false_clause others = None
onward (unit literal) others = others literal
onward neither others = None

-- the values once each of the hints has made a literal true in its turn
abbrev pub followed : List (List ℤ) → List (Option Bool) → List ℕ → Option (List (Option Bool))
followed clauses values [] = Some values
followed clauses values (hint ∷ rest) =
    onward (hint_judgement values (clause_at clauses hint)) (λ literal. followed clauses (taken_true values literal) rest)

-- literals that were chosen from others
abbrev pub AreAmong : List ℤ → List ℤ → Type 0
AreAmong all chosen = (test : ℤ → Bool) × (chosen ≡ filter test all)
