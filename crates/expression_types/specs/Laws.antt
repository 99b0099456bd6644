-- That expressions have these types; the law is the contract of a function of this crate.
use Rattle.std.specs.Prelude.{◌≡◌, ℕ}
use Rattle.c_tree.specs.Trees.{PlainTree}
use Rattle.c_tree.specs.Grammar.{expression}
use Rattle.tree_derivations.specs.Derivations.{Derivation}
use Rattle.core_meaning.specs.Entities.{Scope}
use Rattle.core_meaning.specs.Expressions.{judged}
use Rattle.operand_types.specs.Laws.{KeepsApart, operand_seen}
use Rattle.expression_types.specs.Known.{Known, IsKnown}
use Rattle.expression_types.specs.Reading.{read_expression}

-- The type that is read of an expression is that of the operand that it is judged to be, and nothing is read where it is refused, whatever
-- numbers structs have.
abbrev pub ExpressionsHaveTypes : Type 0
ExpressionsHaveTypes =
    (by : ℕ → ℕ) → KeepsApart by → (scope : Scope) (known : Known) → IsKnown by scope known
    → (level : ℕ) (tree : PlainTree) → Derivation (expression level) tree → (read_expression known tree).outcome ≡ operand_seen by scope (judged scope tree)
