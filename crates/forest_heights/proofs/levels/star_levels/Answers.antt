use Rattle.std.proofs.Common.{ℕ, subst}
use Rattle.choice_trees.specs.ChoiceTrees.{plain_choices}
use Rattle.forest_heights.specs.Levels.{Tells}
use Rattle.forest_heights.proofs.Telling.{stars_counted}
use Rattle.forest_heights.proofs.levels.star_levels.Goals as goal

pub returns : goal.returns
returns c = λ on kind. subst (λ (n : ℕ). Tells on c.in_ok-levels.levels.items n) (stars_counted on kind 0 (plain_choices c.args.parts.now)) (c.in_ok-levels.ensures on)
