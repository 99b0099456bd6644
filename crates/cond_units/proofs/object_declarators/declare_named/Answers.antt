use Rattle.std.proofs.Common.{ap, ◌∙◌, subst, sym}
use Rattle.std.proofs.lemmas.Result.{IfOk-weaker}
use Rattle.cond_formula.specs.Features.{has}
use Rattle.cond_formula.specs.Conditions.{condition_of, value}
use Rattle.conditional.specs.Entries.{entries_of, Stands}
use Rattle.c_text.specs.Token.{plain_token}
use Rattle.c_tree.specs.Trees.{plain_tree}
use Rattle.plain_objects.specs.PlainStates.{plain_storage}
use Rattle.type_tables.specs.Forms.{declared_type_form}
use Rattle.cond_units.specs.Seen.{seen_unit, initialiser_at}
use Rattle.cond_units.proofs.OneObjectDeclarator.{named_here}
use Rattle.cond_units.proofs.object_declarators.declare_named.Goals as goal

pub returns-clause-declares : goal.returns-clause-declares
returns-clause-declares g c =
    IfOk-weaker c.either.result _ _ (λ f is n globals admitted.
    named_here (has n) globals (plain_storage c.args.declaration.now.storage) c.args.base.now (plain_tree c.args.declarator.now) (plain_token c.args.name.now) (initialiser_at (has n) c.args.declaration.now) (g.B.Behind.rest c.args.declaration.now.behind.now n)
    (seen_unit (has n) c.args.unit.now) (seen_unit (has n) c.declare_by_types.new.unit) (value (has n) (condition_of c.args.when.now)) c.in_ok-types.types
    (value (has n) (condition_of c.in_ok-untyped.untyped)) (value (has n) (condition_of c.in_ok-no_object.no_object)) (value (has n) (condition_of c.in_ok-refused.refused)) (value (has n) (condition_of f))
    (is (has n)) (c.in_ok-no_object.ensures.same n (ap (value (has n)) c.in_ok-types.ensures.kept ∙ admitted))
    (λ x shown. c.in_ok-untyped.ensures (has n) x shown)
    (λ scope follows ty there shown. c.in_ok-types.ensures.shows n scope follows ty (plain_token c.args.name.now) admitted there shown)
    (λ off. c.in_ok-refused.ensures.elsewhere n (ap (value (has n)) (c.in_ok-no_object.ensures.kept ∙ c.in_ok-types.ensures.kept) ∙ admitted) off)
    (λ on ty stands. c.in_ok-refused.ensures.declares n globals (ap (value (has n)) (c.in_ok-no_object.ensures.kept ∙ c.in_ok-types.ensures.kept) ∙ admitted) on ty
    (subst (λ list. Stands (has n) ty (entries_of declared_type_form list)) (sym c.as_slice-alternatives.ensures.value) stands))) c.either.ensures
