use Rattle.std.proofs.Common.{false, []}
use Rattle.choice_settling.proofs.SettlingLemmas.{so_at, so_before_list}
use Rattle.choice_settling.proofs.settling.foreseen_before_list.Goals as goal

pub returns-then-branch : goal.returns-then-branch
returns-then-branch c = λ list outer parts. so_at c.args.path.now [] outer c.args.ahead.tokens.now c.args.place false parts

pub returns : goal.returns
returns c = λ list outer parts.
    so_before_list c.args.path.now [] outer c.args.ahead.tokens.now c.args.place c.args.behind c.args.before c.new-2.result c.in_ok-rest.rest parts list c.new-2.ensures.items c.in_ok-rest.ensures.ok
