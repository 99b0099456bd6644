use Rattle.std.proofs.Common.{[], ◌∷◌, ◌++◌, ap}
use Rattle.c_text.specs.Token.{plain_token}
use Rattle.cond_formula.specs.Conditions.{Condition, value}
use Rattle.conditional.specs.Entries.{entries_of, seen, under}
use Rattle.cond_bodies.specs.CondItems.{item_at}
use Rattle.cond_bodies.proofs.items.push_tokens.Goals as goal

pub loop-other-init : goal.loop-other-init
unfolding item_at
loop-other-init c = λ on.
    ap (λ (d : Condition). seen on (entries_of plain_token c.args.tokens.now.items) ++ under (value on d) ((item_at on c.args.item.now).token ∷ [])) c.in_ok-left.ensures
