use Rattle.std.proofs.Common.{List, [], ◌∷◌, ◌++◌, drop, sym, ap, subst, ◌∙◌, append_assoc}
use Rattle.std.specs.List.{AllZip}
use Rattle.std.proofs.lemmas.List.{append-nil, drop_all}
use Rattle.choice_trees.specs.declared.trees.Forest.{Forest}
use Rattle.conditional.proofs.ListLaws.{item_of}
use Rattle.changed_forests.specs.Numbered.{IsNumbered}
use Rattle.project_analysis.proofs.analysis.all_numbered.Goals as goal

pub loop-forest-init : goal.loop-forest-init
loop-forest-init c = λ rest h. subst (λ items. AllZip IsNumbered c.args.forests.now (items ++ rest)) (sym c.in_ok-all.ensures.items) h

pub loop-forest-preserved : goal.loop-forest-preserved
loop-forest-preserved c = λ rest h.
    let copy = c.in_ok-copy.copy in
    let done = c.loop-forest.all.items in
    let behind : AllZip IsNumbered (drop c.loop-forest.forest-index c.args.forests.now) (copy ∷ rest)
    = subst (λ (fs : List Forest). AllZip IsNumbered fs (copy ∷ rest)) (sym (item_of c.args.forests.now c.forest-item.result c.loop-forest.forest-index c.loop-forest-test.true c.forest-item.is))
    (c.in_ok-copy.ensures, h) in
    subst (λ (fs : List Forest). AllZip IsNumbered c.args.forests.now fs) (sym (append_assoc done (copy ∷ []) rest) ∙ ap (λ (fs : List Forest). fs ++ rest) (sym c.in_ok-push.ensures.items))
    (c.loop-forest.invariant (copy ∷ rest) behind)

pub returns : goal.returns
returns c =
    subst (λ (fs : List Forest). AllZip IsNumbered c.args.forests.now fs) (append-nil c.loop-forest.all.items)
    (c.loop-forest.invariant [] (subst (λ (fs : List Forest). AllZip IsNumbered fs []) (sym (drop_all c.loop-forest.forest-index c.args.forests.now c.loop-forest-test.false)) tt))
