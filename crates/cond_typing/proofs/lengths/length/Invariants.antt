use Rattle.std.proofs.Common.{◌≡◌, ℕ, Bool, drop}
use Rattle.c_tree.specs.Trees.{none}
use Rattle.choice_variants.specs.Variants.{before}
use Rattle.cond_typing.specs.Texts.{joined, row_length}
use Rattle.cond_typing.proofs.lengths.length.Given as goal

abbrev pub invariant-loop-part : goal.invariant-loop-part
invariant-loop-part l = (on : ℕ → Bool) → joined l.all (row_length (before on (drop l.part-index l.parts) none)) ≡ row_length (before on l.parts none)
