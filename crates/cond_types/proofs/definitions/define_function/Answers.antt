use Rattle.std.proofs.Common.{◌≡◌, [], ◌∷◌, map, sym, ap, ◌∙◌, subst}
use Rattle.std.proofs.lemmas.Result.{IfOk-weaker}
use Rattle.cond_formula.specs.Features.{has}
use Rattle.cond_formula.specs.Conditions.{condition_of, value}
use Rattle.conditional.specs.Entries.{seen}
use Rattle.choice_trees.specs.ChoiceTrees.{plain_item, item_at}
use Rattle.choice_expansions.specs.Expansions.{expanded}
use Rattle.cond_units.specs.Seen.{seen_unit}
use Rattle.cond_units.specs.Names.{storage_in, said}
use Rattle.cond_types.proofs.OneDefinition.{defined_here}
use Rattle.cond_types.proofs.definitions.define_function.Goals as goal

pub returns-clause-declares : goal.returns-clause-declares
returns-clause-declares g c =
    IfOk-weaker c.either.result _ _ (λ f is n admitted.
    let words = item_at (has n) (plain_item c.args.words.now) in
    let based = ap (value (has n)) c.in_ok-base.ensures.kept ∙ admitted in
    let tested = ap (value (has n)) c.in_ok-no_type.ensures.kept ∙ based in
    defined_here (has n) c.in_ok-base.base words (item_at (has n) (plain_item c.args.declarator.now)) (item_at (has n) (plain_item c.args.body.now))
    (seen_unit (has n) c.args.unit.now) (seen_unit (has n) c.define_with_each.new.unit)
    (value (has n) (condition_of c.args.when.now)) (value (has n) (condition_of c.in_ok-untyped.untyped))
    (value (has n) (condition_of c.in_ok-no_type.no_type)) (value (has n) (condition_of c.in_ok-refused.refused)) (value (has n) (condition_of f))
    (is (has n)) (c.in_ok-no_type.ensures.same n based)
    (λ x shown. c.in_ok-untyped.ensures (has n) x shown)
    (λ scope follows. c.in_ok-base.ensures.shows n scope follows admitted)
    (c.in_ok-refused.ensures.declares n (storage_in words) (ap (value (has n)) c.in_ok-trees.ensures.kept ∙ tested)
    (subst (λ list. seen (has n) (said list) ≡ storage_in words ∷ []) (sym c.deref-2.ensures.value)
    (c.in_ok-said.ensures (has n)
    ∙ ap (map storage_in)
    (subst (λ list. seen (has n) (expanded list) ≡ words ∷ []) (sym c.deref.ensures.value)
    (c.in_ok-trees.ensures.alone n tested)))))) c.either.ensures
