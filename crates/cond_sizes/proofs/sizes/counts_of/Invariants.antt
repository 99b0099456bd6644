use Rattle.std.proofs.Common.{ℕ, Bool}
use Rattle.conditional.specs.Entries.{Stands}
use Rattle.c_text.specs.Token.{PlainToken}
use Rattle.c_tree.specs.Trees.{PlainTree}
use Rattle.core_meaning.specs.Entities.{Scope}
use Rattle.core_meaning.specs.Constancy.{judged_count}
use Rattle.operand_types.specs.OperandTypes.{outcome_as}
use Rattle.choice_expansions.specs.Expansions.{plain_expansion, expanded}
use Rattle.cond_sizes.proofs.Placing.{PlacedSoFar}
use Rattle.cond_sizes.proofs.sizes.counts_of.Given as goal

abbrev pub invariant-loop-expansion : goal.invariant-loop-expansion
invariant-loop-expansion l =
    (on : ℕ → Bool) (tree : PlainTree) → Stands on tree (expanded l.expansions) → (visible : Scope) (other : PlainToken)
    → PlacedSoFar on plain_expansion l.expansions tree (outcome_as (λ (n : ℕ). n) (judged_count visible tree other)) l.expansion-index l.all
