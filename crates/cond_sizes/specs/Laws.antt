-- Constants have no names; the law is the contract of a function of this crate.
use Rattle.std.specs.Prelude.{◌≡◌}
use Rattle.c_text.specs.Token.{PlainToken}
use Rattle.c_tree.specs.Trees.{PlainTree}
use Rattle.core_meaning.specs.Entities.{Scope}
use Rattle.core_meaning.specs.Constancy.{judged_count}
use Rattle.operand_types.specs.OperandTypes.{outcome_as}

-- What comes of a size is the same whatever is visible and whatever stands behind it (6.6, 6.7.6.2).
abbrev pub CountsNeedNoNames : Type 0
CountsNeedNoNames =
    (scope other : Scope) (tree : PlainTree) (behind before : PlainToken)
    → outcome_as (λ n. n) (judged_count scope tree behind) ≡ outcome_as (λ n. n) (judged_count other tree before)
