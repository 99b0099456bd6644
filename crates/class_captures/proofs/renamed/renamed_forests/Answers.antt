use Rattle.std.proofs.Common.{List, [], ◌∷◌, ◌++◌, drop, sym, ap, subst, ◌∙◌, append_assoc}
use Rattle.std.specs.List.{AllZip}
use Rattle.std.proofs.lemmas.List.{append-nil, drop_all}
use Rattle.choice_trees.specs.declared.trees.Forest.{Forest}
use Rattle.conditional.proofs.ListLaws.{item_of}
use Rattle.changed_forests.specs.Renamed.{IsRenamed}
use Rattle.class_captures.proofs.renamed.renamed_forests.Goals as goal

pub loop-forest-init : goal.loop-forest-init
loop-forest-init c = λ rest h. subst (λ items. AllZip (IsRenamed c.args.class.now c.args.new.now) c.args.forests.now (items ++ rest)) (sym c.in_ok-all.ensures.items) h

pub loop-forest-preserved : goal.loop-forest-preserved
loop-forest-preserved c = λ rest h.
    let renamed = c.in_ok-renamed.renamed in
    let done = c.loop-forest.all.items in
    let behind : AllZip (IsRenamed c.args.class.now c.args.new.now) (drop c.loop-forest.forest-index c.args.forests.now) (renamed ∷ rest)
    = subst (λ (fs : List Forest). AllZip (IsRenamed c.args.class.now c.args.new.now) fs (renamed ∷ rest)) (sym (item_of c.args.forests.now c.forest-item.result c.loop-forest.forest-index c.loop-forest-test.true c.forest-item.is))
    (c.in_ok-renamed.ensures, h) in
    subst (λ (fs : List Forest). AllZip (IsRenamed c.args.class.now c.args.new.now) c.args.forests.now fs) (sym (append_assoc done (renamed ∷ []) rest) ∙ ap (λ (fs : List Forest). fs ++ rest) (sym c.in_ok-push.ensures.items))
    (c.loop-forest.invariant (renamed ∷ rest) behind)

pub returns : goal.returns
returns c =
    subst (λ (fs : List Forest). AllZip (IsRenamed c.args.class.now c.args.new.now) c.args.forests.now fs) (append-nil c.loop-forest.all.items)
    (c.loop-forest.invariant [] (subst (λ (fs : List Forest). AllZip (IsRenamed c.args.class.now c.args.new.now) fs []) (sym (drop_all c.loop-forest.forest-index c.args.forests.now c.loop-forest-test.false)) tt))
