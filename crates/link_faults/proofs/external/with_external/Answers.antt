use Rattle.std.proofs.Common.{not, ◌&&◌, sym, ap, ap₂, subst, ◌∙◌, Bool}
use Rattle.std.specs.Prelude.{if◌then◌else◌}
use Rattle.cond_formula.specs.Conditions.{Condition, value}
use Rattle.core_meaning.specs.Linking.{count_defined}
use Rattle.link_faults.specs.Several.{Count}
use Rattle.link_faults.specs.SeenUnits.{unit_seen}
use Rattle.link_faults.proofs.Units.{external_one}
use Rattle.link_faults.proofs.external.with_external.Goals as goal

pub returns : goal.returns
returns c = λ on tables n h.
    let unit = unit_seen on tables c.args.left.now in
    let count = count_defined unit c.args.name.now in
    let here = c.in_ok-external.ensures on
    ∙ ap₂ (λ (k : Condition) (i : Bool). value on k && not i) c.in_ok-try_clone.ensures (c.in_ok-internal.ensures on tables) in
    c.in_ok-s.ensures on n _ h
    (subst (λ k. Count on c.in_ok-here.here k) (ap (λ b. if b then count else 0) here ∙ sym (external_one on tables c.args.name.now c.args.left.now))
    (c.in_ok-here.ensures on count (c.in_ok-all.ensures on tables)))
