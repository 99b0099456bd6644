use Rattle.std.proofs.lemmas.Nat.Bits.{bit_at_set_same, bit_at_set_other}
use Rattle.std.specs.Int.{w128}
use Rattle.sat_core.proofs.configs.with_feature.Goals as goal

pub returns-then-on-clause-on : goal.returns-then-on-clause-on
returns-then-on-clause-on c = λ _. bit_at_set_same w128 c.args.bits c.args.feature c.requires

pub returns-then-on-clause-others : goal.returns-then-on-clause-others
returns-then-on-clause-others c = λ _ other apart. bit_at_set_other w128 c.args.bits c.args.feature c.requires other apart
