use Rattle.std.proofs.Common.{ℕ, sym, subst}
use Rattle.std.specs.Prelude.{option_map}
use Rattle.c_tree.specs.Trees.{plain_tree}
use Rattle.core_meaning.specs.Declarations.{count_of_size}
use Rattle.operand_types.specs.OperandTypes.{outcome_as}
use Rattle.cond_sizes.specs.Sizes.{ShowsCount}
use Rattle.cond_declarators.proofs.elements.counts_of_size.Goals as goal

pub returns : goal.returns
returns c = λ on scope name.
    subst (λ size. ShowsCount on (outcome_as (λ (n : ℕ). n) (count_of_size scope name (option_map (λ t. plain_tree t.now) size))) c.in_ok-counts.counts) (sym c.in-Some.is)
    (subst (λ s. ShowsCount on s c.in_ok-counts.counts) (c.in_ok-count.ensures scope name) (c.in_ok-counts.ensures on))
