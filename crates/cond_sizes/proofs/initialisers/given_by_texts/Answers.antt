use Rattle.std.proofs.Common.{sym, ◌∙◌, subst}
use Rattle.cond_formula.specs.Features.{has}
use Rattle.c_tree.specs.declared.kinds.Kind.TheVariants.{Texts}
use Rattle.choice_trees.specs.ChoiceTrees.{plain_choices, parts_at}
use Rattle.cond_sizes.specs.Sizes.{given, ShowsCount}
use Rattle.cond_sizes.proofs.Lists.{no_characters}
use Rattle.cond_sizes.proofs.initialisers.given_by_texts.Goals as goal

pub returns-in_ok-counts-clause-shows : goal.returns-in_ok-counts-clause-shows
returns-in_ok-counts-clause-shows g c = λ n element admitted is. c.in_ok-counts.ensures.shows n element admitted (is ∙ c.if-of_characters.true)

pub returns-in_ok-none-clause-shows : goal.returns-in_ok-none-clause-shows
returns-in_ok-none-clause-shows g c = λ n element admitted is.
    subst (λ o. ShowsCount (has n) (given o) c.in_ok-none.none) (sym (no_characters element (parts_at (has n) Texts 0 (plain_choices c.args.parts.now)) (is ∙ c.if-of_characters.false)))
    (c.in_ok-none.ensures (has n))
