use Rattle.std.proofs.Common.{Bool, ◌&&◌, [], ◌∷◌, sym, ap, ◌∙◌}
use Rattle.std.proofs.lemmas.Result.{on_ok_weaker}
use Rattle.c_text.specs.Token.{plain_token}
use Rattle.c_text.specs.Macros as spec
use Rattle.cond_formula.specs.Conditions.{condition_of, value}
use Rattle.cond_bodies.specs.CondItems.{item_at}
use Rattle.cond_runs.specs.CondRuns.{run_at}
use Rattle.cond_runs.specs.Pieces.{also, under_piece, items_piece}
use Rattle.cond_macros.proofs.TurnLemmas.{unseen}
use Rattle.cond_macros.proofs.replacing.feature_turn.Goals as goal

pub returns-then-is_never : goal.returns-then-is_never
returns-then-is_never c = λ exact on.
    let own = plain_token c.args.item.now.token.now in
    let here = value on (condition_of c.args.when.now) && value on (condition_of c.args.on_where.now) in
    unseen (run_at exact on c.args.run.now) here (items_piece exact (spec.brought own own (spec.fresh (plain_token c.args.feature.now)) ∷ [])) (sym (c.in_ok-here.ensures on) ∙ c.is_never.ensures c.if-is_never.true on)

pub returns : goal.returns
returns c =
    on_ok_weaker c.push_item.result (λ h. λ exact on.
    let own = plain_token c.args.item.now.token.now in
    let old = run_at exact on c.args.run.now in
    let here = value on (condition_of c.args.when.now) && value on (condition_of c.args.on_where.now) in
    h exact on
    ∙ ap (λ (b : Bool). also old (under_piece b (items_piece exact (item_at on c.in_ok-brought.brought ∷ [])))) (c.in_ok-here.ensures on)
    ∙ ap (λ (i : spec.Item). also old (under_piece here (items_piece exact (i ∷ []))))
    (c.in_ok-brought.ensures on ∙ ap (spec.brought own own) (c.fresh-fresh.ensures.item on)))
    c.push_item.ensures
