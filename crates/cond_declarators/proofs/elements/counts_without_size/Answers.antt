use Rattle.std.proofs.Common.{ℕ, sym, ap, ◌∙◌, subst}
use Rattle.std.specs.Prelude.{option_map}
use Rattle.operand_types.specs.OperandTypes.{outcome_as}
use Rattle.cond_formula.specs.Features.{has}
use Rattle.cond_formula.specs.Conditions.{value}
use Rattle.conditional.specs.Judgements.{fine}
use Rattle.choice_trees.specs.ChoiceTrees.{plain_item, item_at}
use Rattle.core_meaning.specs.Constancy.{count_by_initialiser}
use Rattle.core_meaning.specs.Declarations.{count_or_one, count_without_size}
use Rattle.cond_sizes.specs.Sizes.{ShowsCount}
use Rattle.cond_declarators.specs.Elements.{within_limit}
use Rattle.cond_declarators.proofs.Counting.{limited}
use Rattle.cond_declarators.proofs.elements.counts_without_size.Goals as goal

pub returns-clause-shows : goal.returns-clause-shows
returns-clause-shows g c = λ n element name admitted characters.
    subst (λ given. ShowsCount (has n) (outcome_as (λ (m : ℕ). m) (count_without_size element name (option_map (λ item. item_at (has n) (plain_item item.now)) given))) c.in_ok-limited.limited) (sym c.in-Some.is)
    (subst (λ s. ShowsCount (has n) s c.in_ok-limited.limited) (limited element name (item_at (has n) (plain_item c.in-Some.initialiser.now)))
    (c.in_ok-limited.ensures within_limit (record { maps = λ x y is. is }) (has n)
    (fine (count_or_one (count_by_initialiser element (item_at (has n) (plain_item c.in-Some.initialiser.now)))))
    (c.in_ok-counts.ensures.shows n (count_by_initialiser element (item_at (has n) (plain_item c.in-Some.initialiser.now))) (ap (value (has n)) c.in_ok-numbers.ensures.kept ∙ admitted)
    (c.in_ok-numbers.ensures.shows n element admitted characters))))
