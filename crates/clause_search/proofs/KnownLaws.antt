-- What looking at a clause keeps.
use Rattle.std.proofs.Common.{◌≡◌, ℕ, ◌+◌, ◌<◌, ℤ, Bool, true, List, [], length, get_or, take, Option, Some, refl, sym, ap, ◌∙◌, subst}
use Rattle.std.proofs.lemmas.Bool.{false≢true}
use Rattle.std.proofs.lemmas.List.Elements.{All-more}
use Rattle.refute_check.specs.Steps.{Judgement, false_clause, unit, neither, hint_judgement, clause_at}
use Rattle.clause_search.specs.declared.trail.Effect.{Effect}
use Rattle.clause_search.specs.declared.trail.Effect.TheVariants.{Refutes, Extends, Idle}
use Rattle.clause_search.specs.Known.{Known, HasEffect, AreFollowed, GoesOn, IsPassing, with_literal}
use Rattle.clause_search.specs.Following.{followed}
use Rattle.clause_search.proofs.FollowingLaws.{followed-more}

pub AreFollowed-none : (clauses : List (List ℤ)) (start : List (Option Bool)) (known : Known) → known.values ≡ start → known.hints ≡ [] → AreFollowed clauses start known
AreFollowed-none clauses start known values hints = record { follow = ap (followed clauses start) hints ∙ ap Some (sym values) }

pub GoesOn-same : (clauses : List (List ℤ)) (before after : Known) → after ≡ before → GoesOn clauses before after
GoesOn-same clauses before after same = record {
  each = λ start is. subst (λ (known : Known). AreFollowed clauses start known) (sym same) is;
}

pub GoesOn-further : (clauses : List (List ℤ)) (before between after : Known) → GoesOn clauses before between → GoesOn clauses between after → GoesOn clauses before after
GoesOn-further clauses before between after first second = record { each = λ start is. second.each start (first.each start is) }

module _ (clauses : List (List ℤ)) (number : ℕ) (effect : Effect) (before after : Known) where
  judged_goes_on : (judgement : Judgement) → hint_judgement before.values (clause_at clauses number) ≡ judgement → HasEffect judgement number effect before after → GoesOn clauses before after
  judged_goes_on false_clause is has = GoesOn-same clauses before after has.1
  judged_goes_on (unit literal) is has = record {
    each = λ start follows.
        let more : AreFollowed clauses start (with_literal before literal number) = record { follow = followed-more clauses start before.values before.hints number literal follows.follow is } in
        subst (λ (known : Known). AreFollowed clauses start known) (sym has.1) more;
  }
  judged_goes_on neither is has = GoesOn-same clauses before after has.1

  pub goes_on : HasEffect (hint_judgement before.values (clause_at clauses number)) number effect before after → GoesOn clauses before after
  goes_on has = judged_goes_on (hint_judgement before.values (clause_at clauses number)) refl has

  judged_idle : (judgement : Judgement) → HasEffect judgement number effect before after → effect ≡ Idle → (judgement ≡ neither) × (after ≡ before)
  judged_idle false_clause has is = let apart : Refutes ≡ Idle = sym has.0 ∙ is in cc
  judged_idle (unit literal) has is = let apart : Extends ≡ Idle = sym has.0 ∙ is in cc
  judged_idle neither has is = (refl, has.1)

-- one more clause of a pass
module _ (clauses : List (List ℤ)) (numbers : List ℕ) (index : ℕ) (within : index < length numbers) (effect : Effect) (first before after : Known) (old : Bool) (passing : IsPassing clauses (take index numbers) first before old) (has : HasEffect (hint_judgement before.values (clause_at clauses (get_or numbers index 0))) (get_or numbers index 0) effect before after) where
  further : GoesOn clauses first after
  further = GoesOn-further clauses first before after passing.goes_on (goes_on clauses (get_or numbers index 0) effect before after has)

  pub passing-changed : (new : Bool) → new ≡ true → IsPassing clauses (take (index + 1) numbers) first after new
  passing-changed new is = record {
    goes_on = further;
    same = λ not_changed. absurd (false≢true (sym not_changed ∙ is));
    settled = λ not_changed. absurd (false≢true (sym not_changed ∙ is));
  }

  pub passing-idle : (new : Bool) → new ≡ old → effect ≡ Idle → IsPassing clauses (take (index + 1) numbers) first after new
  passing-idle new kept idle =
      let both = judged_idle clauses (get_or numbers index 0) effect before after (hint_judgement before.values (clause_at clauses (get_or numbers index 0))) has idle in
      record {
        goes_on = further;
        same = λ not_changed. both.1 ∙ passing.same (sym kept ∙ not_changed);
        settled = λ not_changed.
            let unchanged = sym kept ∙ not_changed in
            let here = subst (λ (known : Known). hint_judgement known.values (clause_at clauses (get_or numbers index 0)) ≡ neither) (passing.same unchanged) both.0 in
            record { each = All-more (λ (n : ℕ). hint_judgement first.values (clause_at clauses n) ≡ neither) numbers index 0 within (passing.settled unchanged).each here };
      }
