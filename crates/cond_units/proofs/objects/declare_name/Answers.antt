use Rattle.std.proofs.Common.{Bool, ap, sym, ◌∙◌, subst}
use Rattle.std.specs.Prelude.{◌||◌, ◌&&◌}
use Rattle.std.proofs.lemmas.Result.{IfOk-weaker}
use Rattle.cond_formula.specs.Features.{has}
use Rattle.cond_formula.specs.Conditions.{condition_of, value}
use Rattle.c_text.specs.Token.{plain_token}
use Rattle.c_types.specs.Types.{plain_type}
use Rattle.choice_trees.specs.ChoiceTrees.{plain_item, item_at}
use Rattle.plain_objects.specs.PlainStates.{plain_storage}
use Rattle.type_tables.specs.Tables.{object}
use Rattle.type_tables.specs.Seen.{seen_tables}
use Rattle.type_tables.specs.Follows.{SortFollows}
use Rattle.cond_units.specs.Definitions.{is_unfit}
use Rattle.cond_units.proofs.Given.{still_given}
use Rattle.cond_units.proofs.objects.declare_name.Goals as goal

pub returns-clause-names : goal.returns-clause-names
returns-clause-names g c = IfOk-weaker c.either-2.result _ _ (λ f is n admitted. record {
  differs = value (has n) (condition_of c.in_ok-differs.differs);
  unfit = value (has n) (condition_of c.in_ok-unfit.unfit);
  invalid = value (has n) (condition_of c.in_ok-invalid.invalid);
  refused_is =
      is (has n)
      ∙ ap (λ (b : Bool). value (has n) (condition_of c.in_ok-differs.differs) || b)
      (c.in_ok-here.ensures.same n (ap (value (has n)) (c.in_ok-invalid.ensures.kept ∙ c.in_ok-differs.ensures.kept) ∙ admitted)
      ∙ ap (λ (b : Bool). value (has n) (condition_of c.args.when.now) && b) (c.in_ok-refused.ensures (has n)));
  elsewhere = λ off. c.in_ok-differs.ensures.elsewhere n admitted off;
  named = λ on scope follows s same there.
      c.in_ok-differs.ensures.declared n admitted on scope follows (plain_token c.args.name.now) s (sym c.deref.ensures.value)
      (subst (λ t. SortFollows follows.by (seen_tables (has n) c.args.tables.now).signatures s (object t)) (sym c.in_ok-copied.ensures) same) there tt;
  unfit_is = λ declared.
      c.in_ok-unfit.ensures n declared
      ∙ ap (λ (b : Bool). is_unfit (seen_tables (has n) c.declare_as.new.tables) (plain_storage c.args.declaration.now.storage) b (plain_type c.args.ty.now) (g.B.Behind.rest c.args.declaration.now.behind.now n))
      (c.is_some-initialised.ensures ∙ still_given (λ item. item_at (has n) (plain_item item.now)) c.args.declaration.now.initialiser);
  invalid_is = λ scope follows t same there outside derived globals.
      c.in_ok-invalid.ensures.refused n (ap (value (has n)) c.in_ok-differs.ensures.kept ∙ admitted) scope follows t same there outside derived (plain_token c.args.name.now) globals;
}) c.either-2.ensures
