use Rattle.std.proofs.Common.{Bool, ◌&&◌, [], ◌∷◌, ap, ◌∙◌}
use Rattle.std.proofs.lemmas.Result.{on_ok_weaker}
use Rattle.c_text.specs.Macros as spec
use Rattle.cond_formula.specs.Conditions.{condition_of, value}
use Rattle.cond_bodies.specs.CondItems.{item_at}
use Rattle.cond_runs.specs.CondRuns.{run_at}
use Rattle.cond_runs.specs.Pieces.{also, under_piece, items_piece}
use Rattle.cond_macros.proofs.replacing.keep.Goals as goal

pub returns : goal.returns
returns c =
    on_ok_weaker c.push_item.result (λ h. λ exact on.
    let old = run_at exact on c.args.run.now in
    let both = value on (condition_of c.args.when.now) && value on (condition_of c.args.some.now) in
    h exact on
    ∙ ap (λ (b : Bool). also old (under_piece b (items_piece exact (item_at on c.in_ok-kept.field-0 ∷ [])))) (c.in_ok-here.ensures on)
    ∙ ap (λ (i : spec.Item). also old (under_piece both (items_piece exact (i ∷ [])))) (c.in_ok-kept.ensures on))
    c.push_item.ensures
