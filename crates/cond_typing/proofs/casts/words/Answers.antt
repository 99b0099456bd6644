use Rattle.std.proofs.Common.{◌+◌, drop, sym, ap, ◌∙◌, subst}
use Rattle.std.proofs.lemmas.List.{drop_all}
use Rattle.cond_formula.specs.Features.{has}
use Rattle.cond_formula.specs.Conditions.{condition_of}
use Rattle.conditional.specs.Entries.{alternatives, Stands, Places}
use Rattle.conditional.proofs.ListLaws.{item_of}
use Rattle.c_tree.specs.Trees.{none}
use Rattle.c_tree.specs.declared.kinds.Kind.TheVariants as k
use Rattle.core_meaning.specs.Expressions.{arithmetic_words}
use Rattle.choice_trees.specs.ChoiceTrees.{plain_choices, parts_at}
use Rattle.choice_variants.specs.Variants.{before, shown}
use Rattle.choice_variants.proofs.Placing.{EachPlaced, next_placed, all_placed}
use Rattle.cond_nodes.specs.Reads.{cast_type}
use Rattle.cond_typing.proofs.MadeOfVariants.{made_by, made, stands_made, begin_placed}
use Rattle.cond_typing.proofs.casts.words.Goals as goal

pub loop-variant-init : goal.loop-variant-init
loop-variant-init g c = λ on. begin_placed on (made on arithmetic_words c.deref-variant-items.result.now) (alternatives cast_type c.nothing-all.result) (c.nothing-all.ensures on)

pub loop-variant-preserved : goal.loop-variant-preserved
loop-variant-preserved g c = λ on.
    next_placed on (made_by on arithmetic_words c.variant-item.result) (made on arithmetic_words c.deref-variant-items.result.now)
    (made on arithmetic_words (drop (c.loop-variant.variant-index + 1) c.deref-variant-items.result.now)) (alternatives cast_type c.loop-variant.all) (alternatives cast_type c.place.new.self)
    (subst (λ rest. EachPlaced on (made on arithmetic_words c.deref-variant-items.result.now) (made on arithmetic_words rest) (alternatives cast_type c.loop-variant.all))
    (item_of c.deref-variant-items.result.now c.variant-item.result c.loop-variant.variant-index c.loop-variant-test.true c.variant-item.is) (c.loop-variant.invariant on))
    (subst (λ when. Places on when (arithmetic_words (before on c.variant-item.result.parts.items none)) (alternatives cast_type c.loop-variant.all) (alternatives cast_type c.place.new.self)) c.in_ok-when.ensures
    (subst (λ what. Places on (condition_of c.in_ok-when.when) what (alternatives cast_type c.loop-variant.all) (alternatives cast_type c.place.new.self))
    (c.arithmetic_type.ensures on ∙ ap (λ ps. arithmetic_words (before on ps none)) c.deref.ensures.value) (c.in_ok-place.ensures on)))

pub returns-clause-stands : goal.returns-clause-stands
returns-clause-stands g c = λ n admitted.
    all_placed (has n) (arithmetic_words (parts_at (has n) k.Specifiers 0 (plain_choices c.args.parts.now))) (made (has n) arithmetic_words c.deref-variant-items.result.now) (alternatives cast_type c.loop-variant.all)
    (subst (λ rest. EachPlaced (has n) (made (has n) arithmetic_words c.deref-variant-items.result.now) (made (has n) arithmetic_words rest) (alternatives cast_type c.loop-variant.all))
    (drop_all c.loop-variant.variant-index c.deref-variant-items.result.now c.loop-variant-test.false) (c.loop-variant.invariant (has n)))
    (stands_made (has n) arithmetic_words (parts_at (has n) k.Specifiers 0 (plain_choices c.args.parts.now)) c.deref-variant-items.result.now
    (subst (λ vs. Stands (has n) (parts_at (has n) k.Specifiers 0 (plain_choices c.args.parts.now)) (shown (has n) vs)) (sym c.deref-variant-items.ensures.value) (c.in_ok-variants.ensures.stands n admitted)))
