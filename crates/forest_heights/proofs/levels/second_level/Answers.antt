use Rattle.std.proofs.Common.{List, [], ◌∷◌, ◌++◌, nat_lt, if◌then◌else◌, subst, sym, ap, ◌∙◌}
use Rattle.cond_formula.specs.declared.formulas.Formula.{Formula}
use Rattle.forest_heights.specs.Levels.{Tells}
use Rattle.forest_heights.proofs.Telling.{second_tells, short_tells}
use Rattle.forest_heights.proofs.levels.second_level.Goals as goal

pub returns-in_ok-push-in-Some : goal.returns-in_ok-push-in-Some
returns-in_ok-push-in-Some c = λ on count tell.
    subst (λ (xs : List Formula). Tells on xs (if nat_lt 1 count then 1 else 0))
    (sym (c.in_ok-push-in-Some.ensures.items ∙ ap (λ (xs : List Formula). xs ++ c.in_ok-try_clone-in-Some.field-0 ∷ []) c.new-levels.ensures.items))
    (second_tells on c.args.words.now count c.in-Some.level.now c.in_ok-try_clone-in-Some.field-0 c.in-Some.ensures.lookup.3.0 c.in-Some.ensures.lookup.1 c.in_ok-try_clone-in-Some.ensures tell)

pub returns-in-None : goal.returns-in-None
returns-in-None c = λ on count tell.
    subst (λ (xs : List Formula). Tells on xs (if nat_lt 1 count then 1 else 0)) (sym c.new.ensures.items)
    (short_tells on c.args.words.now count c.in-None.ensures.lookup.3 tell)
