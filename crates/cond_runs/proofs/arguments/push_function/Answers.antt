use Rattle.std.proofs.Common.{[], ◌∷◌}
use Rattle.cond_formula.specs.Conditions.{condition_of, value}
use Rattle.conditional.specs.Entries.{entries_of, seen}
use Rattle.cond_bodies.specs.CondMeanings.{plain_function}
use Rattle.cond_bodies.proofs.ItemLemmas.{seen_pushed, never_pushed}
use Rattle.cond_runs.proofs.arguments.push_function.Goals as goal

pub returns-then-is_never : goal.returns-then-is_never
returns-then-is_never c = λ on.
    never_pushed (value on (condition_of c.args.when)) (seen on (entries_of plain_function c.args.functions.now.items)) (plain_function c.args.what ∷ []) (c.is_never.ensures c.if-is_never.true on)

pub returns : goal.returns
returns c = λ on. seen_pushed plain_function on _ _ _ c.in_ok-push.ensures.items
