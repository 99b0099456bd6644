use Rattle.std.proofs.Common.{List, ap, ◌∙◌}
use Rattle.std.specs.List.{list_any}
use Rattle.cond_formula.specs.Features.{has}
use Rattle.conditional.specs.Entries.{seen}
use Rattle.choice_trees.specs.ChoiceTrees.{plain_item, item_at}
use Rattle.choice_expansions.specs.Expansions.{expanded}
use Rattle.choice_expansions.specs.declared.rows.Expansion.{Expansion}
use Rattle.type_tables.specs.Seen.{seen_tables}
use Rattle.link_faults.proofs.Loops.{or_none}
use Rattle.cond_types.specs.Sizes.{is_big_declarator}
use Rattle.cond_types.proofs.sizes.where_declarator_big.Goals as goal

pub returns-clause-big : goal.returns-clause-big
returns-clause-big g c = λ n admitted.
    let test = is_big_declarator (seen_tables (has n) c.args.tables.now) in
    c.in_ok-f.ensures (has n)
    ∙ (ap (λ (xs : List Expansion). list_any test (seen (has n) (expanded xs))) c.deref.ensures.value
    ∙ (ap (list_any test) (c.in_ok-all.ensures.alone n admitted) ∙ or_none (test (item_at (has n) (plain_item c.args.item.now)))))
