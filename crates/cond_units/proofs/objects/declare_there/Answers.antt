use Rattle.std.proofs.Common.{[], ◌++◌, ap₂, sym, ◌∙◌, subst}
use Rattle.cond_formula.specs.Features.{has}
use Rattle.cond_formula.specs.Conditions.{condition_of, value}
use Rattle.conditional.specs.Entries.{seen, listed, under}
use Rattle.c_text.specs.Token.{plain_token}
use Rattle.c_types.specs.Types.{plain_type}
use Rattle.choice_trees.specs.ChoiceTrees.{plain_item, item_at}
use Rattle.plain_objects.specs.PlainStates.{plain_storage}
use Rattle.type_tables.specs.Seen.{seen_tables}
use Rattle.cond_units.specs.Definitions.{definitions_of}
use Rattle.cond_units.specs.Seen.{seen_unit, initialiser_at}
use Rattle.type_tables.specs.Definitions.{definition_form}
use Rattle.cond_units.specs.Declaring.{Names}
use Rattle.cond_units.proofs.Given.{still_given}
use Rattle.cond_units.proofs.OneObject.{object_here}
use Rattle.cond_units.proofs.objects.declare_there.Goals as goal

pub returns-clause-declares : goal.returns-clause-declares
returns-clause-declares g c = λ n globals admitted.
    object_here globals (plain_storage c.args.declaration.now.storage) (plain_token c.args.name.now) (initialiser_at (has n) c.args.declaration.now) (g.B.Behind.rest c.args.declaration.now.behind.now n)
    (plain_type c.args.ty.now) (seen_unit (has n) c.args.unit.now) (seen_unit (has n) c.define_object.new.unit) (value (has n) (condition_of c.args.when.now)) (value (has n) (condition_of c.in_ok-refused.refused))
    (λ scope t tree parts bindings e. c.first_values_are_there.ensures globals scope t [] tree (plain_token c.args.name.now) parts bindings e)
    (subst (λ tables. Names (plain_storage c.args.declaration.now.storage) (plain_type c.args.ty.now) (plain_token c.args.name.now) (initialiser_at (has n) c.args.declaration.now) (g.B.Behind.rest c.args.declaration.now.behind.now n)
    (value (has n) (condition_of c.args.when.now)) (seen_tables (has n) c.args.unit.now.tables) (seen_tables (has n) tables) (value (has n) (condition_of c.in_ok-refused.refused)))
    (sym c.in_ok-define_object.ensures.tables) (c.in_ok-refused.ensures.names n admitted))
    (c.in_ok-define_object.ensures.defined (has n)
    ∙ ap₂ (λ name given. seen (has n) (listed definition_form c.args.unit.now.defined) ++ under (value (has n) (condition_of c.args.when.now)) (definitions_of (plain_storage c.args.declaration.now.storage) name given))
    c.deref.ensures.value (still_given (λ item. item_at (has n) (plain_item item.now)) c.args.declaration.now.initialiser))
