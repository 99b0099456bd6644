use Rattle.std.proofs.Common.{◌+◌, [], ◌∷◌, drop, sym, ap, ◌∙◌, subst}
use Rattle.std.proofs.lemmas.List.{drop_all}
use Rattle.cond_formula.specs.Features.{has}
use Rattle.cond_formula.specs.Conditions.{condition_of}
use Rattle.conditional.specs.Entries.{alternatives, Stands, Places}
use Rattle.conditional.proofs.ListLaws.{item_of}
use Rattle.c_tree.specs.Trees.{none}
use Rattle.c_tree.specs.declared.kinds.Kind.TheVariants as k
use Rattle.choice_trees.specs.ChoiceTrees.{plain_choices, parts_at}
use Rattle.choice_variants.specs.Variants.{before, shown}
use Rattle.choice_variants.proofs.Placing.{EachPlaced, next_placed, all_placed}
use Rattle.cond_typing.proofs.MadeOfVariants.{made_by, made, stands_made, begin_placed}
use Rattle.cond_typing.specs.Texts.{same_length, row_length}
use Rattle.cond_typing.proofs.texts.choice_length.Goals as goal

pub loop-variant-init : goal.loop-variant-init
loop-variant-init g c = λ on. begin_placed on (made on row_length c.deref-variant-items.result.now) (alternatives same_length c.nothing-all.result) (c.nothing-all.ensures on)

pub loop-variant-preserved : goal.loop-variant-preserved
loop-variant-preserved g c = λ on.
    next_placed on (made_by on row_length c.variant-item.result) (made on row_length c.deref-variant-items.result.now)
    (made on row_length (drop (c.loop-variant.variant-index + 1) c.deref-variant-items.result.now)) (alternatives same_length c.loop-variant.all) (alternatives same_length c.place.new.self)
    (subst (λ rest. EachPlaced on (made on row_length c.deref-variant-items.result.now) (made on row_length rest) (alternatives same_length c.loop-variant.all))
    (item_of c.deref-variant-items.result.now c.variant-item.result c.loop-variant.variant-index c.loop-variant-test.true c.variant-item.is) (c.loop-variant.invariant on))
    (subst (λ when. Places on when (row_length (before on c.variant-item.result.parts.items none)) (alternatives same_length c.loop-variant.all) (alternatives same_length c.place.new.self)) c.in_ok-when.ensures
    (subst (λ what. Places on (condition_of c.in_ok-when.when) what (alternatives same_length c.loop-variant.all) (alternatives same_length c.place.new.self))
    (c.in_ok-length.ensures on ∙ ap (λ ps. row_length (before on ps none)) c.deref.ensures.value) (c.in_ok-place.ensures on)))

pub returns-clause-stands : goal.returns-clause-stands
returns-clause-stands g c = λ n admitted.
    all_placed (has n) (row_length (parts_at (has n) k.Texts 0 (plain_choices (c.args.choice.now ∷ [])))) (made (has n) row_length c.deref-variant-items.result.now) (alternatives same_length c.loop-variant.all)
    (subst (λ rest. EachPlaced (has n) (made (has n) row_length c.deref-variant-items.result.now) (made (has n) row_length rest) (alternatives same_length c.loop-variant.all))
    (drop_all c.loop-variant.variant-index c.deref-variant-items.result.now c.loop-variant-test.false) (c.loop-variant.invariant (has n)))
    (stands_made (has n) row_length (parts_at (has n) k.Texts 0 (plain_choices (c.args.choice.now ∷ []))) c.deref-variant-items.result.now
    (subst (λ vs. Stands (has n) (parts_at (has n) k.Texts 0 (plain_choices (c.args.choice.now ∷ []))) (shown (has n) vs)) (sym c.deref-variant-items.ensures.value)
    (subst (λ list. Stands (has n) (parts_at (has n) k.Texts 0 (plain_choices list)) (shown (has n) c.in_ok-variants.variants.items)) c.from_ref.ensures.value (c.in_ok-variants.ensures.stands n admitted))))
