use Rattle.std.proofs.Common.{sym, ap, ◌∙◌, subst}
use Rattle.cond_formula.specs.Features.{has}
use Rattle.cond_formula.specs.Conditions.{condition_of, value}
use Rattle.conditional.specs.Entries.{seen, listed, under}
use Rattle.c_tree.specs.declared.kinds.Kind.TheVariants.{Parameters}
use Rattle.choice_trees.specs.ChoiceTrees.{plain_choices, parts_at}
use Rattle.choice_expansions.specs.Expansions.{expanded}
use Rattle.declarator_lists.specs.Lists.{trees_of}
use Rattle.type_tables.specs.Forms.{declared_type_form}
use Rattle.type_tables.specs.Seen.{seen_tables}
use Rattle.cond_parameters.specs.Parameters.{Declares}
use Rattle.cond_parameters.specs.Readings.{parameters_among, nothing_read, read_all}
use Rattle.cond_parameters.proofs.Law.{list_read}
use Rattle.cond_parameters.proofs.lists.declare_parts.Goals as goal

pub returns-clause-declared : goal.returns-clause-declared
returns-clause-declared g c = λ n by scope behind admitted here f is_list.
    subst
    (λ outcome. Declares by scope outcome (seen (has n) (listed declared_type_form c.in_ok-all.all.types)) (value (has n) (condition_of c.in_ok-all.all.refused)) (seen_tables (has n) c.declare_trees.new.tables))
    (ap (λ trees. (read_all c.args.defining scope behind nothing_read trees).parameters)
    (ap (λ list. seen (has n) (expanded list)) c.deref.ensures.value
    ∙ c.in_ok-trees.ensures.seen n admitted
    ∙ ap (λ b. under b (parameters_among (trees_of (parts_at (has n) Parameters 0 (plain_choices c.args.parts.now))))) here)
    ∙ sym (list_read c.args.defining scope behind (parts_at (has n) Parameters 0 (plain_choices c.args.parts.now)) is_list))
    (c.in_ok-all.ensures.declares n by scope behind (ap (value (has n)) c.in_ok-trees.ensures.kept ∙ admitted) f)
