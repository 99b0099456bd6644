use Rattle.std.proofs.Common.{◌∙◌}
use Rattle.pp_lines.proofs.LineLemmas.{last-angle_at, no_angle}
use Rattle.pp_lines.proofs.inclusions.ends_with_angle.Goals as goal

pub returns-then-tokens-gt1 : goal.returns-then-tokens-gt1
returns-then-tokens-gt1 c =
    c.is_spelled.ensures ∙ last-angle_at c.args.tokens.now c.index-tokens-tokens.result c.if-tokens-gt1.true c.index-tokens-tokens.is

pub returns-else-tokens-gt1 : goal.returns-else-tokens-gt1
returns-else-tokens-gt1 c = no_angle c.args.tokens.now c.if-tokens-gt1.false
