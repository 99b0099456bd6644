use Rattle.std.proofs.Common.{◌&&◌, [], ◌∷◌, refl, ap, ◌∙◌}
use Rattle.std.proofs.lemmas.Result.{on_ok_weaker}
use Rattle.c_text.specs.Macros as spec
use Rattle.cond_formula.specs.Conditions.{condition_of, value}
use Rattle.cond_bodies.specs.CondItems.{item_at}
use Rattle.cond_runs.specs.CondRuns.{run_at}
use Rattle.cond_runs.specs.Pieces.{also, under_piece, items_piece}
use Rattle.cond_macros.proofs.NameLemmas.{active_named}
use Rattle.cond_macros.proofs.replacing.active_turn.Goals as goal

pub returns : goal.returns
returns c =
    on_ok_weaker c.push_item.result (λ h. λ exact on meaning means.
    let item = item_at on c.args.item.now in
    let w = value on (condition_of c.args.when) in
    let some = value on (condition_of c.in_ok-some.some) in
    let elsewhere = value on (condition_of c.in_ok-elsewhere.elsewhere) in
    let middle = run_at exact on c.keep.new.run in
    active_named exact (run_at exact on c.args.run.now) middle (run_at exact on c.push_item.new.self) w some (w && some) elsewhere item meaning
    (c.in_ok-some.ensures on meaning means) refl (c.in_ok-elsewhere.ensures on) (c.in_ok-keep.ensures exact on)
    (h exact on ∙ ap (λ (i : spec.Item). also middle (under_piece elsewhere (items_piece exact (i ∷ [])))) (c.in_ok-try_clone.ensures.item on)))
    c.push_item.ensures
