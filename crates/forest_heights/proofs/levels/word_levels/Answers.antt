use Rattle.std.proofs.Common.{ℕ, List, false, subst, sym}
use Rattle.cond_formula.specs.declared.formulas.Formula.{Formula}
use Rattle.choice_trees.specs.ChoiceTrees.{plain_choices}
use Rattle.forest_heights.specs.Levels.{Tells, counted}
use Rattle.forest_heights.proofs.Telling.{words_are_several}
use Rattle.forest_heights.proofs.levels.word_levels.Goals as goal

pub returns : goal.returns
returns c = λ on.
    subst (λ (n : ℕ). Tells on c.in_ok-levels.levels.items n) (words_are_several on (plain_choices c.args.parts.now))
    (c.in_ok-levels.ensures on (counted on false (plain_choices c.args.parts.now))
    (subst (λ (words : List Formula). Tells on words (counted on false (plain_choices c.args.parts.now))) (sym c.deref.ensures.value) (c.in_ok-words.ensures on)))
