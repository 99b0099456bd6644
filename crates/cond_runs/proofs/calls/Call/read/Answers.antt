use Rattle.std.proofs.Common.{ℕ, Bool, false, sym, ◌∙◌}
use Rattle.std.specs.Prelude.{codes}
use Rattle.c_text.specs.Directives.{is_spelled}
use Rattle.cond_bodies.specs.CondItems.{item_at}
use Rattle.cond_runs.specs.CondCalls.{call_at}
use Rattle.cond_runs.proofs.ReadLemmas.{deep}
use Rattle.cond_runs.proofs.calls.Call.read.Goals as goal

pub close-requires : goal.close-requires
unfolding call_at
close-requires c =
    let on : ℕ → Bool = λ k. false in
    deep (is_spelled (codes ")") (item_at on c.args.item).token) c.args.self.now.nested (c.requires on) (sym (c.is_spelled.ensures on) ∙ c.if-is_spelled.true)
