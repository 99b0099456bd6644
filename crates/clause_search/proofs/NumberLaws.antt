-- The clause that a number finds.
use Rattle.std.proofs.Common.{◌≡◌, ℕ, zero, suc, ◌-◌, ◌<◌, ◌≤◌, ℤ, List, [], ◌∷◌, ◌++◌, length, map, get_or, slice_get, Option, None, Some, refl, sym, ap, ◌∙◌, arith}
use Rattle.std.specs.Prelude.{Vec}
use Rattle.std.specs.declared.alloc.Global.{Global}
use Rattle.std.proofs.lemmas.List.{length-map}
use Rattle.std.proofs.lemmas.Option.{slice_get-map, slice_get_read, slice_get_past}
use Rattle.std.specs.Option.{option_map}
use Rattle.refute_check.specs.Steps.{clause_at}
use Rattle.refute_check.specs.Refutations as refutations
use Rattle.clause_search.specs.declared.answers.Step.{Step}
use Rattle.clause_search.specs.Answers.{literals_of, step_of, steps_of}
use Rattle.clause_search.specs.Following.{numbered}

got-front : {X : Type 0} (xs ys : List X) (index : ℕ) → index < length xs → slice_get (xs ++ ys) index ≡ slice_get xs index
got-front [] ys index within = absurd (omega arith)
got-front (first ∷ rest) ys zero within = refl
got-front (first ∷ rest) ys (suc index) within = got-front rest ys index (omega arith)

got-back : {X : Type 0} (xs ys : List X) (index : ℕ) → length xs ≤ index → slice_get (xs ++ ys) index ≡ slice_get ys (index - length xs)
got-back [] ys index past = ap (slice_get ys) (omega arith)
got-back (first ∷ rest) ys zero past = absurd (omega arith)
got-back (first ∷ rest) ys (suc index) past = got-back rest ys index (omega arith) ∙ ap (slice_get ys) (omega arith)

-- a given clause
pub clause_at-given : (given : List (List ℤ)) (steps : List refutations.Step) (index : ℕ) → index < length given → clause_at (numbered given steps) (suc index) ≡ slice_get given index
clause_at-given given steps index within = got-front given (map (λ (s : refutations.Step). s.clause) steps) index within

-- a step's clause
pub clause_at-step : (given : List (List ℤ)) (steps : List refutations.Step) (index : ℕ) → length given ≤ index → clause_at (numbered given steps) (suc index) ≡ slice_get (map (λ (s : refutations.Step). s.clause) steps) (index - length given)
clause_at-step given steps index past = got-back given (map (λ (s : refutations.Step). s.clause) steps) index past

-- what a look-up in the code finds
module _ (given : List (Vec ℤ Global)) (steps : List Step) where
  given_count : length (literals_of given) ≡ length given
  given_count = length-map given (λ (clause : Vec ℤ Global). clause.items)

  pub found_given : (number index : ℕ) (found : Vec ℤ Global) (clause : List ℤ) → 1 ≤ number → index ≡ number - 1 → index < length given → found ≡ get_or given index found → clause ≡ found.items → Some clause ≡ clause_at (numbered (literals_of given) (steps_of steps)) number
  found_given zero index found clause some is within at same = absurd (omega arith)
  found_given (suc n) index found clause some is within at same =
      let here : index ≡ n = omega arith in
      let got = slice_get_read given (length given) index found refl within at in
      ap Some same
      ∙ sym (ap (option_map (λ (c : Vec ℤ Global). c.items)) got)
      ∙ sym (slice_get-map (λ (c : Vec ℤ Global). c.items) given index)
      ∙ sym (clause_at-given (literals_of given) (steps_of steps) index (rw given_count within))
      ∙ ap (λ (i : ℕ). clause_at (numbered (literals_of given) (steps_of steps)) (suc i)) here

  step_clauses : (index : ℕ) → slice_get (map (λ (s : refutations.Step). s.clause) (steps_of steps)) index ≡ option_map (λ (s : Step). s.clause.items) (slice_get steps index)
  step_clauses index =
      slice_get-map (λ (s : refutations.Step). s.clause) (steps_of steps) index
      ∙ ap (option_map (λ (s : refutations.Step). s.clause)) (slice_get-map step_of steps index)
      ∙ mapped (slice_get steps index)
    where
      mapped : (o : Option Step) → option_map (λ (s : refutations.Step). s.clause) (option_map step_of o) ≡ option_map (λ (s : Step). s.clause.items) o
      mapped None = refl
      mapped (Some s) = refl

  at_step : (number index : ℕ) → 1 ≤ number → index ≡ number - 1 → length given ≤ index → clause_at (numbered (literals_of given) (steps_of steps)) number ≡ option_map (λ (s : Step). s.clause.items) (slice_get steps (index - length given))
  at_step zero index some is past = absurd (omega arith)
  at_step (suc n) index some is past =
      let here : n ≡ index = omega arith in
      ap (λ (i : ℕ). clause_at (numbered (literals_of given) (steps_of steps)) (suc i)) here
      ∙ clause_at-step (literals_of given) (steps_of steps) index (rw given_count past)
      ∙ ap (λ (count : ℕ). slice_get (map (λ (s : refutations.Step). s.clause) (steps_of steps)) (index - count)) given_count
      ∙ step_clauses (index - length given)

  pub found_step : (number index : ℕ) (found : Step) (clause : List ℤ) → 1 ≤ number → index ≡ number - 1 → length given ≤ index → index - length given < length steps → found ≡ get_or steps (index - length given) found → clause ≡ found.clause.items → Some clause ≡ clause_at (numbered (literals_of given) (steps_of steps)) number
  found_step number index found clause some is past within at same =
      ap Some same
      ∙ sym (ap (option_map (λ (s : Step). s.clause.items)) (slice_get_read steps (length steps) (index - length given) found refl within at))
      ∙ sym (at_step number index some is past)

  pub found_none : (number index : ℕ) → 1 ≤ number → index ≡ number - 1 → length given ≤ index → length steps ≤ index - length given → None ≡ clause_at (numbered (literals_of given) (steps_of steps)) number
  found_none number index some is past beyond =
      sym (at_step number index some is past ∙ ap (option_map (λ (s : Step). s.clause.items)) (slice_get_past steps (index - length given) beyond))
