use Rattle.std.proofs.Common.{[], ◌∷◌, ◌++◌, ap, ◌∙◌}
use Rattle.c_text.specs.Token.{PlainToken, plain_token}
use Rattle.cond_formula.specs.Conditions.{condition_of, value}
use Rattle.conditional.specs.Entries.{entries_of, seen, under}
use Rattle.cond_bodies.proofs.ItemLemmas.{seen_pushed}
use Rattle.cond_bodies.proofs.items.push_token.Goals as goal

pub returns : goal.returns
returns c = λ on.
    seen_pushed plain_token on _ _ _ c.in_ok-push.ensures.items
    ∙ ap (λ (t : PlainToken). seen on (entries_of plain_token c.args.tokens.now.items) ++ under (value on (condition_of c.args.when)) (t ∷ [])) c.in_ok-what.ensures
