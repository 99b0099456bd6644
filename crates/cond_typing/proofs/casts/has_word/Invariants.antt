use Rattle.std.proofs.Common.{◌≡◌, ℕ, Bool, drop}
use Rattle.c_tree.specs.Trees.{none}
use Rattle.core_meaning.specs.Expressions.{has_terminal}
use Rattle.choice_variants.specs.Variants.{before}
use Rattle.cond_typing.proofs.casts.has_word.Given as goal

abbrev pub invariant-loop-part : goal.invariant-loop-part
invariant-loop-part l = (on : ℕ → Bool) → has_terminal l.wanted (before on (drop l.part-index l.parts) none) ≡ has_terminal l.wanted (before on l.parts none)
