use Rattle.std.proofs.Common.{[], ◌∷◌, ◌++◌, map, ap, ◌∙◌, arith}
use Rattle.c_text.specs.Token.{plain_token}
use Rattle.cond_formula.specs.Conditions.{Condition, value}
use Rattle.conditional.specs.Entries.{entries_of, seen, under}
use Rattle.cond_bodies.specs.CondMeanings.{plain_function}
use Rattle.cond_bodies.proofs.ItemLemmas.{seen_pushed}
use Rattle.cond_runs.specs.Functions.{without_params}
use Rattle.cond_runs.proofs.ArgumentLemmas.{form_step, form_end}
use Rattle.cond_macros.proofs.replacing.as_functions.Goals as goal

pub loop-object-preserved : goal.loop-object-preserved
loop-object-preserved c = λ on.
    let x = c.object-item.result in
    let so_far = seen on (entries_of plain_function c.loop-object.functions.items) in
    form_step without_params (λ b. map plain_token b.now) on c.args.objects.now x c.loop-object.object-index so_far (seen on (entries_of plain_function c.push.new.self.items)) (map without_params (seen on (entries_of (λ b. map plain_token b.now) c.args.objects.now)))
    c.loop-object-test.true c.object-item.is (c.loop-object.invariant on)
    (seen_pushed plain_function on _ _ _ c.in_ok-push.ensures.items
    ∙ ap (λ (d : Condition). so_far ++ under (value on d) (without_params (map plain_token x.what.now) ∷ [])) c.in_ok-try_clone.ensures)

pub returns : goal.returns
returns c = λ on.
    form_end without_params (λ b. map plain_token b.now) on c.args.objects.now c.loop-object.object-index (seen on (entries_of plain_function c.loop-object.functions.items)) (map without_params (seen on (entries_of (λ b. map plain_token b.now) c.args.objects.now))) (omega arith) (c.loop-object.invariant on)
