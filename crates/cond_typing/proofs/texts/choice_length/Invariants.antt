use Rattle.std.proofs.Common.{ℕ, Bool, drop}
use Rattle.conditional.specs.Entries.{alternatives}
use Rattle.choice_variants.proofs.Placing.{EachPlaced}
use Rattle.cond_typing.proofs.MadeOfVariants.{made}
use Rattle.cond_typing.specs.Texts.{same_length, row_length}
use Rattle.cond_typing.proofs.texts.choice_length.Given as goal

abbrev pub invariant-loop-variant : goal.invariant-loop-variant
invariant-loop-variant g l = (on : ℕ → Bool) →
    EachPlaced on (made on row_length l.variant-items) (made on row_length (drop l.variant-index l.variant-items)) (alternatives same_length l.all)
