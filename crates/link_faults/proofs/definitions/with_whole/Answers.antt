use Rattle.std.proofs.Common.{◌+◌, sym, subst, ◌∙◌}
use Rattle.std.specs.Prelude.{if◌then◌else◌}
use Rattle.cond_formula.specs.Conditions.{Condition, condition_of, value}
use Rattle.link_faults.specs.Several.{Count}
use Rattle.link_faults.proofs.Entries.{whole_one}
use Rattle.link_faults.proofs.definitions.with_whole.Goals as goal

pub returns-then-is_whole : goal.returns-then-is_whole
returns-then-is_whole c = λ on n h.
    subst (λ k. Count on c.in_ok-s.s (n + k)) (sym (whole_one on c.args.name.now c.args.entry.now (sym c.is_whole.ensures ∙ c.if-is_whole.true)))
    (c.in_ok-s.ensures on n (if value on (condition_of c.args.entry.now.when) then 1 else 0) h
    (subst (λ (k : Condition). Count on c.one-more.result (if value on k then 1 else 0)) c.in_ok-try_clone.ensures (c.one-more.ensures on)))
