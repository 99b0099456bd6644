use Rattle.std.proofs.Common.{take, sym, subst, arith}
use Rattle.std.specs.Prelude.{◌↔◌, Contains}
use Rattle.std.proofs.lemmas.List.{take_all}
use Rattle.tied_tokens.specs.Tokens.{plain_file_token, plain_file_tokens}
use Rattle.tied_tokens.proofs.Members.{pushed_alike, made_more}
use Rattle.tied_tokens.proofs.tokens.in_order.Goals as goal

pub loop-token-preserved : goal.loop-token-preserved
loop-token-preserved c =
    let xs = c.args.tokens.now in
    let i = c.loop-token.token-index in
    let x = c.token-item.result in
    record {
      members = λ other.
          let put = c.in_ok-put.ensures.members other in
          let alike = pushed_alike (plain_file_tokens c.loop-token.sorted.items) (plain_file_tokens (take i xs)) (plain_file_token x) other (c.loop-token.invariant.members other) in
          subst (λ ts. Contains (plain_file_tokens c.put.new.sorted.items) other ↔ Contains ts other) (sym (made_more plain_file_token xs i x c.loop-token-test.true c.token-item.is))
          (λ h. alike.0 (put.0 h), λ h. put.1 (alike.1 h));
      in_order = c.in_ok-put.ensures.in_order c.loop-token.invariant.in_order;
    }

pub returns-clause-members : goal.returns-clause-members
returns-clause-members c = λ token.
    subst (λ ts. Contains (plain_file_tokens c.loop-token.sorted.items) token ↔ Contains (plain_file_tokens ts) token) (take_all c.loop-token.token-index c.args.tokens.now (omega arith))
    (c.loop-token.invariant.members token)
