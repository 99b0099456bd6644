use Rattle.std.proofs.Common.{sym, ap, ◌∙◌}
use Rattle.std.specs.Prelude.{◌&&◌, codes}
use Rattle.c_text.specs.Directives.{is_spelled}
use Rattle.cond_bodies.specs.CondItems.{item_at}
use Rattle.cond_runs.specs.CondCalls.{call_at}
use Rattle.cond_runs.proofs.ReadLemmas.{plain_progress, false_last}
use Rattle.cond_runs.proofs.calls.Call.is_split_by.Goals as goal

pub returns-then-is_spelled-3 : goal.returns-then-is_spelled-3
unfolding call_at
returns-then-is_spelled-3 c = λ e on.
    plain_progress (call_at on c.args.self.now) (item_at on c.args.item.now) (sym (c.is_spelled.ensures on) ∙ c.if-is_spelled.false) (sym (c.is_spelled-2.ensures on) ∙ c.if-is_spelled-2.false)
    (ap (λ b. is_spelled (codes ",") (item_at on c.args.item.now).token && b) e ∙ false_last (is_spelled (codes ",") (item_at on c.args.item.now).token))
