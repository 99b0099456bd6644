use Rattle.std.proofs.Common.{sym, subst, false}
use Rattle.std.specs.Prelude.{Some}
use Rattle.cond_formula.specs.Features.{has}
use Rattle.cond_formula.specs.Conditions.{condition_of, value}
use Rattle.conditional.specs.Entries.{seen, listed}
use Rattle.choice_trees.specs.ChoiceTrees.{plain_item, item_at}
use Rattle.core_meaning.specs.Declarations.{with_block, parameters_of}
use Rattle.type_tables.specs.Forms.{declared_type_form}
use Rattle.type_tables.specs.Seen.{seen_tables}
use Rattle.type_tables.specs.Numbers.{FollowsInBlockBy}
use Rattle.type_tables.proofs.BlockLaws.{block_entered, entered_by}
use Rattle.cond_units.proofs.ParameterLists.{gives_types, left_as_before}
use Rattle.cond_units.proofs.lists.read_parameters.Goals as goal

pub returns-clause-same : goal.returns-clause-same
returns-clause-same g c = λ on.
    left_as_before on c.args.tables.now c.enter.new.self c.declare_parameters.new.tables c.leave.new.self c.in_ok-outside.ensures.same c.in_ok-all.ensures.outside
    (c.leave.ensures c.args.tables.now c.in_ok-outside.ensures.outside (c.in_ok-all.ensures.outside.outside c.args.tables.now c.in_ok-outside.ensures.kept)).0
    (c.leave.ensures c.args.tables.now c.in_ok-outside.ensures.outside (c.in_ok-all.ensures.outside.outside c.args.tables.now c.in_ok-outside.ensures.kept)).1

pub returns-clause-elsewhere : goal.returns-clause-elsewhere
returns-clause-elsewhere g c = λ n admitted off. (c.in_ok-all.ensures.elsewhere n admitted off).1

pub returns-clause-given : goal.returns-clause-given
returns-clause-given g c = λ n scope follows behind admitted on is_list.
    gives_types follows.by scope (parameters_of false scope (Some (item_at (has n) (plain_item c.args.list.now))) behind)
    (seen (has n) (listed declared_type_form c.in_ok-all.all.types)) (value (has n) (condition_of c.in_ok-all.all.refused)) (seen_tables (has n) c.declare_parameters.new.tables)
    (c.in_ok-all.ensures.declared n follows.by scope behind admitted on
    (subst (λ t. FollowsInBlockBy follows.by t (with_block scope)) (sym (c.in_ok-outside.ensures.seen (has n)))
    (record { follows = block_entered (seen_tables (has n) c.args.tables.now) scope follows; numbers = entered_by (seen_tables (has n) c.args.tables.now) scope follows })) is_list)
