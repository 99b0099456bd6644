use Rattle.std.proofs.Common.{◌||◌, [], ◌∷◌, List, Vec, Global, ap, ◌∙◌}
use Rattle.std.proofs.lemmas.List.{map-append}
use Rattle.cond_formula.specs.declared.formulas.Formula.{Formula}
use Rattle.cond_formula.specs.Conditions.{condition_of, value}
use Rattle.conditional.specs.declared.entries.Guarded.{Guarded}
use Rattle.cond_bodies.specs.declared.item.Item.{Item}
use Rattle.cond_bodies.specs.CondItems.{items_at}
use Rattle.cond_runs.specs.CondArguments.{lists_at}
use Rattle.cond_runs.specs.CondFinished.{given_at}
use Rattle.cond_macros.proofs.CallLemmas.{lists_added}
use Rattle.cond_macros.proofs.replacing.Replaced.add.Goals as goal

pub returns : goal.returns
unfolding given_at
returns c = λ on.
    lists_added (value on (condition_of c.args.self.now.refused)) (value on (condition_of c.args.argument.refused)) (value on (condition_of c.in_ok-refused.refused)) (lists_at on c.args.self.now.lists.items) (lists_at on c.push.new.self.items) (items_at on c.args.argument.items.items)
    (c.in_ok-refused.ensures on ∙ ap (λ (f : Formula). value on (condition_of f) || value on (condition_of c.args.argument.refused)) c.replace-before.ensures.value)
    (ap (λ (l : List (Vec (Guarded Item) Global)). lists_at on l) c.in_ok-push.ensures.items ∙ map-append (λ (v : Vec (Guarded Item) Global). items_at on v.items) c.args.self.now.lists.items (c.args.argument.items ∷ []))
