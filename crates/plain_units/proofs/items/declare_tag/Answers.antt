use Rattle.std.proofs.Common.{refl, rules}
use Rattle.c_tree.specs.Trees.{plain_trees}
use Rattle.plain_scope.specs.PlainScope.{uses_of}
use Rattle.plain_scope.specs.Judgements.{RefusedAs}
use Rattle.plain_declarators.specs.PlainBased.{plain_based}
use Rattle.plain_objects.specs.PlainStates.{plain_state}
use Rattle.plain_units.specs.Items.{tag_item, tag_gives, tag_refused}
use Rattle.plain_units.proofs.items.declare_tag.Goals as goal

pub returns-in_err-declared_base : goal.returns-in_err-declared_base
returns-in_err-declared_base c = λ globals.
    let outer : RefusedAs (tag_item (plain_state globals c.args.unit.now) (plain_trees c.args.words.now)) c.in_err-declared_base.field-0.0 = tag_refused (plain_state globals c.args.unit.now) (plain_trees c.args.words.now) c.in_err-declared_base.field-0.0 c.in_err-declared_base.ensures in
    search (rules, outer)

pub returns : goal.returns
returns c = λ globals.
    tag_gives (plain_state globals c.args.unit.now) (plain_trees c.args.words.now) (plain_based c.declared_base.new.scope c.in_ok-declared_base.field-0) _ (uses_of c.args.used.now) c.in_ok-declared_base.ensures refl
