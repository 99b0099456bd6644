use Rattle.std.proofs.Common.{sym, ap, ◌∙◌, subst}
use Rattle.cond_formula.specs.Features.{has}
use Rattle.cond_formula.specs.Conditions.{value}
use Rattle.conditional.specs.Entries.{Stands}
use Rattle.c_tree.specs.declared.kinds.Kind.TheVariants.{Braces}
use Rattle.choice_trees.specs.ChoiceTrees.{plain_choices, parts_at}
use Rattle.choice_variants.specs.Variants.{shown}
use Rattle.cond_sizes.proofs.initialisers.in_braces.Goals as goal

pub returns-clause-shows : goal.returns-clause-shows
returns-clause-shows g c = λ n element admitted.
    c.in_ok-given.ensures.shows n element (parts_at (has n) Braces 0 (plain_choices c.args.parts.now)) (ap (value (has n)) c.in_ok-all.ensures.kept ∙ admitted)
    (subst (λ list. Stands (has n) (parts_at (has n) Braces 0 (plain_choices c.args.parts.now)) (shown (has n) list)) (sym c.deref.ensures.value) (c.in_ok-all.ensures.stands n admitted))
