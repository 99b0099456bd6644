use Rattle.std.proofs.Common.{◌≤◌, length, arith}
use Rattle.cond_formula.specs.Conditions.{condition_of, value}
use Rattle.declared_tokens.specs.Declarations.{declared_at}
use Rattle.declared_tokens.proofs.Otherwise.{tells-otherwise, none-beyond}
use Rattle.declared_tokens.proofs.tokens.DeclaredTokens.where_otherwise.Goals as goal

pub returns : goal.returns
returns c =
    let ended = c.loop-token-test.false in
    let some : length c.args.self.now.by_token.items ≤ c.loop-token.token = omega (arith, ended, c.len.ensures, c.len-2.ensures, c.max-tokens.ensures) in
    let others : length c.args.other.now.by_token.items ≤ c.loop-token.token = omega (arith, ended, c.len.ensures, c.len-2.ensures, c.max-tokens.ensures) in
    λ on. tells-otherwise (declared_at on c.args.self.now) (declared_at on c.args.other.now) c.loop-token.token
    (λ token past. none-beyond on c.args.self.now.by_token.items token (omega (arith, past, some))) (λ token past. none-beyond on c.args.other.now.by_token.items token (omega (arith, past, others)))
    (value on (condition_of c.loop-token.differs)) (c.loop-token.invariant on)
