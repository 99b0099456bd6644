use Rattle.std.proofs.Common.{◌+◌, Bool, ◌&&◌, drop, sym, ap, ◌∙◌}
use Rattle.std.proofs.lemmas.List.{drop_more}
use Rattle.cond_formula.specs.Conditions.{condition_of, conditions_of, value, all_true}
use Rattle.path_conditions.proofs.PathLemmas.{all_push, and_assoc}
use Rattle.path_conditions.proofs.paths.push_copies.Goals as goal

pub loop-part-preserved : goal.loop-part-preserved
loop-part-preserved c = λ on.
    let parts = c.args.parts.now in
    let part = c.part-item.result in
    let copy = c.in_ok-try_clone.field-0 in
    let before = all_true on (conditions_of c.loop-part.path.items) in
    let rest = all_true on (conditions_of (drop (c.loop-part.part-index + 1) parts)) in
    ap (λ ps. all_true on (conditions_of ps) && rest) c.in_ok-push.ensures.items
    ∙ ap (λ (b : Bool). b && rest) (all_push on c.loop-part.path.items copy)
    ∙ and_assoc before (value on (condition_of copy)) rest
    ∙ ap (λ d. before && (value on d && rest)) c.in_ok-try_clone.ensures
    ∙ ap (λ p. before && (value on (condition_of p) && rest)) c.part-item.is
    ∙ ap (λ ps. before && all_true on (conditions_of ps)) (sym (drop_more parts c.loop-part.part-index part c.loop-part-test.true))
    ∙ c.loop-part.invariant on
