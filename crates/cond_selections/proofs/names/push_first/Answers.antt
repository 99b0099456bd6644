use Rattle.std.proofs.Common.{◌++◌, Some, sym, ap, ◌∙◌}
use Rattle.c_text.specs.Token.{plain_token}
use Rattle.cond_formula.specs.Conditions.{condition_of, value}
use Rattle.conditional.specs.Entries.{seen, listed, under}
use Rattle.cond_selections.specs.Selected.{plain_selection}
use Rattle.cond_selections.specs.Progress.{one_selection}
use Rattle.cond_selections.proofs.Noting.{left_to_note, note_next, noted_all}
use Rattle.cond_selections.proofs.names.push_first.Goals as goal

pub loop-structure-init : goal.loop-structure-init
loop-structure-init c = λ on.
    ap (λ f. seen on (listed plain_selection c.args.log.now) ++ left_to_note on (plain_token c.args.name.now) c.args.structures.now (value on f) 0) c.in_ok-left.ensures

pub loop-structure-preserved : goal.loop-structure-preserved
loop-structure-preserved c = λ on.
    note_next on (plain_token c.args.name.now) c.args.structures.now c.loop-structure.structure-index c.structure-item.result (value on (condition_of c.loop-structure.left)) (value on (condition_of c.in_ok-here.here)) (value on (condition_of c.in_ok-left-2.left))
    (seen on (listed plain_selection c.loop-structure.log)) (seen on (listed plain_selection c.push.new.log)) c.loop-structure-test.true c.structure-item.is (c.in_ok-here.ensures on) (c.in_ok-left-2.ensures on)
    (c.in_ok-push.ensures on ∙ ap (λ name. seen on (listed plain_selection c.loop-structure.log) ++ under (value on (condition_of c.in_ok-here.here)) (one_selection name (Some c.structure-item.result.what.number))) c.in_ok-try_clone.ensures)
    ∙ c.loop-structure.invariant on

pub returns : goal.returns
returns c = λ on.
    sym (noted_all on (plain_token c.args.name.now) c.args.structures.now c.loop-structure.structure-index (value on (condition_of c.loop-structure.left)) (seen on (listed plain_selection c.loop-structure.log)) c.loop-structure-test.false)
    ∙ c.loop-structure.invariant on
