use Rattle.std.proofs.Common.{List, [], ◌∷◌, ◌++◌, Vec, Global, ap, ◌∙◌, arith}
use Rattle.std.proofs.lemmas.List.{map-append}
use Rattle.c_text.specs.Macros as spec
use Rattle.conditional.specs.declared.entries.Guarded.{Guarded}
use Rattle.cond_bodies.specs.declared.item.Item.{Item}
use Rattle.cond_bodies.specs.CondItems.{items_at}
use Rattle.cond_runs.specs.CondArguments.{lists_at}
use Rattle.cond_runs.proofs.ArgumentLemmas.{copied_step, copied_end}
use Rattle.cond_runs.proofs.arguments.copied_lists.Goals as goal

pub loop-list-preserved : goal.loop-list-preserved
loop-list-preserved c = λ on.
    let so_far = lists_at on c.loop-list.copies.items in
    copied_step on c.args.lists.now c.list-item.result c.loop-list.list-index so_far (lists_at on c.push.new.self.items) (lists_at on c.args.lists.now) c.loop-list-test.true c.list-item.is (c.loop-list.invariant on)
    (ap (λ (l : List (Vec (Guarded Item) Global)). lists_at on l) c.in_ok-push.ensures.items
    ∙ map-append (λ (v : Vec (Guarded Item) Global). items_at on v.items) c.loop-list.copies.items (c.in_ok-copied_list.field-0 ∷ [])
    ∙ ap (λ (l : List spec.Item). so_far ++ l ∷ []) (c.in_ok-copied_list.ensures on ∙ ap (λ (l : List (Guarded Item)). items_at on l) c.as_slice.ensures.value))

pub returns : goal.returns
returns c = λ on. copied_end on c.args.lists.now c.loop-list.list-index (lists_at on c.loop-list.copies.items) (lists_at on c.args.lists.now) (omega arith) (c.loop-list.invariant on)
