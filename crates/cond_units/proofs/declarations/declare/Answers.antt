use Rattle.std.proofs.Common.{◌≡◌, [], ◌∷◌, map, refl, sym, ap, ◌∙◌, subst}
use Rattle.std.proofs.lemmas.Result.{IfOk-weaker}
use Rattle.cond_formula.specs.Features.{has}
use Rattle.cond_formula.specs.Conditions.{condition_of, value}
use Rattle.conditional.specs.Entries.{seen}
use Rattle.c_tree.specs.declared.kinds.Kind.TheVariants as k
use Rattle.choice_trees.specs.ChoiceTrees.{plain_item, plain_choices, item_at, parts_at}
use Rattle.choice_expansions.specs.Expansions.{expanded}
use Rattle.type_tables.specs.Seen.{seen_tables}
use Rattle.cond_units.specs.Seen.{seen_unit}
use Rattle.cond_units.specs.Names.{storage_in, said}
use Rattle.cond_units.proofs.Declaring.{declared_here}
use Rattle.cond_units.proofs.declarations.declare.Goals as goal

pub returns-clause-declares : goal.returns-clause-declares
returns-clause-declares g c =
    IfOk-weaker c.either.result _ _ (λ f is n globals role admitted.
    declared_here (has n) c.in_ok-base.base (item_at (has n) (plain_item c.args.words.now)) (seen_unit (has n) c.args.unit.now)
    (record { tables = seen_tables (has n) c.declared_base.new.tables; defined = (seen_unit (has n) c.args.unit.now).defined })
    (value (has n) (condition_of c.args.when.now)) (value (has n) (condition_of c.in_ok-untyped.untyped))
    (λ x shown. c.in_ok-untyped.ensures (has n) x shown) refl
    (λ off. c.in_ok-base.ensures.elsewhere (has n) off)
    (λ on scope follows. c.in_ok-base.ensures.declares n scope follows admitted on)
    globals (parts_at (has n) k.Declarators 0 (plain_choices c.args.parts.now)) (g.B.Behind.rest c.args.surroundings.now.behind.now n) role
    (seen_unit (has n) c.name_with_each.new.unit)
    (value (has n) (condition_of c.in_ok-no_type.no_type)) (value (has n) (condition_of c.in_ok-refused.refused)) (value (has n) (condition_of f))
    (is (has n)) (c.in_ok-no_type.ensures.same n (ap (value (has n)) c.in_ok-base.ensures.kept ∙ admitted))
    (c.in_ok-refused.ensures.declares n globals role (storage_in (item_at (has n) (plain_item c.args.words.now)))
    (ap (value (has n)) (c.in_ok-trees.ensures.kept ∙ (c.in_ok-no_type.ensures.kept ∙ c.in_ok-base.ensures.kept)) ∙ admitted)
    (subst (λ list. seen (has n) (said list) ≡ storage_in (item_at (has n) (plain_item c.args.words.now)) ∷ []) (sym c.deref-2.ensures.value)
    (c.in_ok-said.ensures (has n)
    ∙ ap (map storage_in)
    (subst (λ list. seen (has n) (expanded list) ≡ item_at (has n) (plain_item c.args.words.now) ∷ []) (sym c.deref.ensures.value)
    (c.in_ok-trees.ensures.alone n (ap (value (has n)) (c.in_ok-no_type.ensures.kept ∙ c.in_ok-base.ensures.kept) ∙ admitted))))))) c.either.ensures
