use Rattle.std.proofs.Common.{◌+◌, length, sym, ap, ◌∙◌, subst}
use Rattle.std.specs.Prelude.{None, option_map, if◌then◌else◌}
use Rattle.cond_formula.specs.Features.{has}
use Rattle.c_tree.specs.declared.kinds.Kind.TheVariants.{Texts}
use Rattle.choice_trees.specs.ChoiceTrees.{plain_choices, parts_at}
use Rattle.core_meaning.specs.Expressions.{text_bytes}
use Rattle.cond_sizes.specs.Sizes.{given, ShowsCount}
use Rattle.cond_sizes.specs.Totals.{total, text_length, with_zero}
use Rattle.cond_sizes.proofs.Adding.{texts_with_zero}
use Rattle.cond_sizes.proofs.initialisers.in_texts.Goals as goal

pub returns-clause-shows : goal.returns-clause-shows
returns-clause-shows g c = λ n element admitted character.
    subst (λ s. ShowsCount (has n) s c.in_ok-counts.counts)
    (texts_with_zero (parts_at (has n) Texts 0 (plain_choices c.args.parts.now))
    ∙ sym (ap (λ b. given (if b then option_map (λ bytes. length bytes + 1) (text_bytes (parts_at (has n) Texts 0 (plain_choices c.args.parts.now))) else None)) character))
    (c.in_ok-counts.ensures with_zero (record { maps = λ x y is. is }) (has n) (total text_length (parts_at (has n) Texts 0 (plain_choices c.args.parts.now))) (c.in_ok-total.ensures.shows n admitted))
