use Rattle.std.proofs.Common.{◌++◌, map, arith}
use Rattle.c_text.specs.Token.{plain_token}
use Rattle.cond_formula.specs.Conditions.{condition_of, value}
use Rattle.conditional.specs.Entries.{under}
use Rattle.cond_bodies.specs.Slots.{slots_at, slot_of}
use Rattle.cond_bodies.proofs.ItemLemmas.{under_mapped}
use Rattle.cond_bodies.proofs.bodies.push_own.Goals as goal

pub returns : goal.returns
returns c = λ on.
    let k = value on (condition_of c.args.when.now) in
    let f = slot_of (map (λ n. n.items) c.args.params.now) in
    under_mapped f plain_token k c.args.tokens.now c.loop-token.token-index (slots_at on c.loop-token.all.items) (slots_at on c.args.all.now.items ++ under k (map f (map plain_token c.args.tokens.now))) (omega arith) (c.loop-token.invariant on)
