use Rattle.std.proofs.Common.{Bool, true, false, ◌≡◌, arith}
use Rattle.tied_tokens.specs.Tokens.{plain_file_token}
use Rattle.tied_tokens.proofs.Members.{none_made}
use Rattle.tied_tokens.proofs.Growth.{all_taken}
use Rattle.tied_tokens.proofs.tokens.is_among.Goals as goal

pub returns : goal.returns
returns c = (
  λ h. absurd (let no : ◌≡◌ {A = Bool} false true = h in cc),
  λ h. absurd (none_made plain_file_token c.args.tokens.now (plain_file_token c.args.token.now)
      (all_taken (λ other. plain_file_token other ≡ plain_file_token c.args.token.now → ⊥) c.args.tokens.now c.loop-other.other-index (omega arith) c.loop-other.invariant) h),
)
