-- One more literal of a hint's clause.
use Rattle.std.proofs.Common.{◌≡◌, ℕ, ◌+◌, ◌-◌, ◌<◌, ℤ, Bool, List, length, get_or, take, drop, Option, sym, ap, ◌∙◌, subst, arith}
use Rattle.std.proofs.lemmas.List.{drop_more, take_all, length-drop}
use Rattle.refute_check.specs.Steps.{Judgement, value_of, all_false, judged, judgement}
use Rattle.refute_check.specs.declared.marks.Mark.{Mark}
use Rattle.refute_check.specs.Marks.{values_at}
use Rattle.refute_check.specs.Effects.{HasEffect}
use Rattle.refute_check.specs.declared.hints.Effect.{Effect}

-- at the literal with this index, the judgement of what is left
pub judgement-more : (values : List (Option Bool)) (clause : List ℤ) (index : ℕ) (literal d : ℤ) → index < length clause → literal ≡ get_or clause index d → judgement values (drop index clause) ≡ judged (value_of values literal) literal (all_false values (take (length clause - (index + 1)) (drop (index + 1) clause))) (judgement values (drop (index + 1) clause))
judgement-more values clause index literal d within is =
    let rest = drop (index + 1) clause in
    let whole : take (length clause - (index + 1)) rest ≡ rest = take_all (length clause - (index + 1)) rest (omega (arith, length-drop (index + 1) clause)) in
    rw (whole, is) (ap (judgement values) (drop_more clause index d within))

-- What a loop over the literals that made a last step has done.
pub effect_of_clause : (number : ℕ) (before marks after : List Mark) (clause : List ℤ) (index : ℕ) (literal d : ℤ) (effect : Effect) → index < length clause → literal ≡ get_or clause index d → marks ≡ before → judgement (values_at number marks) (drop index clause) ≡ judgement (values_at number marks) clause → ((rest : Judgement) → HasEffect (judged (value_of (values_at number marks) literal) literal (all_false (values_at number marks) (take (length clause - (index + 1)) (drop (index + 1) clause))) rest) effect (values_at number marks) (values_at number after)) → HasEffect (judgement (values_at number before) clause) effect (values_at number before) (values_at number after)
effect_of_clause number before marks after clause index literal d effect within is same so_far has =
    let P : Judgement → Type 0 = λ j. HasEffect j effect (values_at number marks) (values_at number after) in
    let Q : List Mark → Type 0 = λ m. HasEffect (judgement (values_at number m) clause) effect (values_at number m) (values_at number after) in
    subst Q same (subst P (sym (judgement-more (values_at number marks) clause index literal d within is) ∙ so_far) (has (judgement (values_at number marks) (drop (index + 1) clause))))
