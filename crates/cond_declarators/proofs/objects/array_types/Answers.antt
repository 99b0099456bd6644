use Rattle.std.proofs.Common.{sym, ap, ◌∙◌, subst}
use Rattle.std.specs.Prelude.{Option, option_map}
use Rattle.cond_formula.specs.Features.{has}
use Rattle.c_types.specs.Types.{plain_type}
use Rattle.c_tree.specs.declared.terminals.Terminal.TheVariants.{OpenBracket}
use Rattle.c_tree.specs.Trees.{PlainTree, plain_trees}
use Rattle.choice_trees.specs.ChoiceTrees.{plain_item, item_at}
use Rattle.core_meaning.specs.Constancy.{is_character_type}
use Rattle.core_meaning.specs.Declarations.{starred, behind_word, element_count}
use Rattle.operand_types.specs.OperandTypes.{outcome_as}
use Rattle.type_tables.specs.Seen.{seen_tables}
use Rattle.cond_sizes.specs.Sizes.{ShowsCount}
use Rattle.cond_declarators.specs.Types.{ShowsType}
use Rattle.cond_declarators.proofs.DeclaratorTypes.{starred_renumbered, characters_renumbered, array_judged}
use Rattle.cond_declarators.proofs.objects.array_types.Goals as goal

pub returns-clause-shows : goal.returns-clause-shows
returns-clause-shows g c = λ n scope f ty name admitted there same.
    let element = c.in_ok-element.ensures ∙ ap (starred (plain_trees c.args.parts.now)) same in
    subst (λ o. ShowsType (has n) o c.in_ok-arrays.arrays)
    (array_judged (seen_tables (has n) c.args.tables.now) scope f ty (plain_trees c.args.parts.now) name (option_map (λ item. item_at (has n) (plain_item item.now)) c.args.initialiser) there
    (plain_type c.in_ok-element.element) element)
    (c.in_ok-arrays.ensures (has n)
    (outcome_as (λ (m : _). m) (element_count scope (starred (plain_trees c.args.parts.now) ty) name (behind_word OpenBracket (plain_trees c.args.parts.now)) (option_map (λ item. item_at (has n) (plain_item item.now)) c.args.initialiser)))
    (subst (λ (size : Option PlainTree). ShowsCount (has n) (outcome_as (λ (m : _). m) (element_count scope (starred (plain_trees c.args.parts.now) ty) name size (option_map (λ item. item_at (has n) (plain_item item.now)) c.args.initialiser))) c.in_ok-counts.counts)
    c.behind_word-size.ensures
    (c.in_ok-counts.ensures.shows n scope (starred (plain_trees c.args.parts.now) ty) name admitted
    (sym (characters_renumbered f.by (starred (plain_trees c.args.parts.now) ty)) ∙ (ap is_character_type (starred_renumbered f.by (plain_trees c.args.parts.now) ty ∙ sym element) ∙ sym c.is_character_type.ensures)))))
