use Rattle.std.proofs.Common.{List, [], ◌∷◌, ◌++◌, ap, ◌∙◌}
use Rattle.std.proofs.lemmas.List.{map-append}
use Rattle.c_text.specs.Macros as spec
use Rattle.cond_formula.specs.Conditions.{Condition, condition_of, value}
use Rattle.conditional.specs.Entries.{under}
use Rattle.cond_bodies.specs.Cores.{core, cores}
use Rattle.cond_bodies.specs.CondItems.{item_at, items_at}
use Rattle.cond_bodies.proofs.SlotLemmas.{cores_under}
use Rattle.cond_bodies.proofs.bodies.push_own_item.Goals as goal

pub returns : goal.returns
returns c = λ on.
    let old = items_at on c.args.items.now.items in
    ap cores (c.in_ok-push.ensures on)
    ∙ map-append core old (under (value on (condition_of c.in_ok-try_clone.field-0)) (item_at on c.in_ok-what.what ∷ []))
    ∙ ap (λ (l : List spec.Item). cores old ++ l) (cores_under (value on (condition_of c.in_ok-try_clone.field-0)) (item_at on c.in_ok-what.what ∷ []))
    ∙ ap (λ (d : Condition). cores old ++ under (value on d) (core (item_at on c.in_ok-what.what) ∷ [])) c.in_ok-try_clone.ensures
    ∙ ap (λ (i : spec.Item). cores old ++ under (value on (condition_of c.args.when.now)) (i ∷ [])) (c.in_ok-what.ensures on)
