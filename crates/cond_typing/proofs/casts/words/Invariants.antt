use Rattle.std.proofs.Common.{ℕ, Bool, drop}
use Rattle.conditional.specs.Entries.{alternatives}
use Rattle.core_meaning.specs.Expressions.{arithmetic_words}
use Rattle.choice_variants.proofs.Placing.{EachPlaced}
use Rattle.cond_nodes.specs.Reads.{cast_type}
use Rattle.cond_typing.proofs.MadeOfVariants.{made}
use Rattle.cond_typing.proofs.casts.words.Given as goal

abbrev pub invariant-loop-variant : goal.invariant-loop-variant
invariant-loop-variant g l = (on : ℕ → Bool) →
    EachPlaced on (made on arithmetic_words l.variant-items) (made on arithmetic_words (drop l.variant-index l.variant-items)) (alternatives cast_type l.all)
