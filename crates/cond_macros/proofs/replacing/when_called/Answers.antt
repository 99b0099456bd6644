use Rattle.std.proofs.Common.{Bool, List, ◌&&◌, sym, ap, ◌∙◌}
use Rattle.std.proofs.lemmas.Result.{IfOk-weaker}
use Rattle.c_text.specs.Macros as spec
use Rattle.cond_formula.specs.Conditions.{condition_of, value}
use Rattle.cond_formula.specs.ConditionLaws.{condition_of-False}
use Rattle.conditional.specs.declared.entries.Guarded.{Guarded}
use Rattle.conditional.specs.Entries.{entries_of, seen}
use Rattle.cond_bodies.specs.declared.meanings.Function.{Function}
use Rattle.cond_bodies.specs.CondItems.{items_at}
use Rattle.cond_bodies.specs.CondMeanings.{plain_function}
use Rattle.cond_bodies.proofs.LevelLemmas.{holds_is_seen}
use Rattle.cond_runs.specs.Functions.{some_seen}
use Rattle.cond_runs.proofs.ArgumentLemmas.{empty_is}
use Rattle.cond_macros.proofs.CondRunLemmas.{lists_some}
use Rattle.cond_macros.proofs.replacing.when_called.Goals as goal

pub returns-then-is_empty : goal.returns-then-is_empty
returns-then-is_empty c = λ on.
    ap (value on) condition_of-False
    ∙ ap (λ (l : List (Guarded Function)). some_seen (seen on (entries_of plain_function l)) && spec.opens (items_at on c.args.rest.now)) (sym (empty_is c.args.functions.now (sym c.is_empty.ensures ∙ c.if-is_empty.true)))

pub returns : goal.returns
returns c =
    IfOk-weaker c.both.result _ _ (λ f h. λ on.
    h on
    ∙ ap (λ (b : Bool). b && value on (condition_of c.in_ok-opens.opens)) (c.in_ok-some.ensures on ∙ holds_is_seen plain_function on c.args.functions.now ∙ lists_some (seen on (entries_of plain_function c.args.functions.now)))
    ∙ ap (λ (b : Bool). some_seen (seen on (entries_of plain_function c.args.functions.now)) && b) (c.in_ok-opens.ensures on))
    c.both.ensures
