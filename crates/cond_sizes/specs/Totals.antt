-- What the parts of a node come to together.
use Rattle.std.specs.Prelude.{ℕ, ◌+◌, ◌/◌, ◌%◌, Bool, true, false, List, length, Option, Some, None}
use Rattle.c_text.specs.Constants.{quoted_values}
use Rattle.c_tree.specs.Trees.{PlainTree, PlainTrees, leaf, node, none, more}
use Rattle.choice_trees.specs.ChoiceTrees.{no_statement}
use Rattle.conditional.specs.Judgements.{Checked, fine, refused, bind}

-- what a part comes to, if to anything
abbrev pub Measured : Type 0
Measured = Checked ℕ (Unit {0})

abbrev pub plus : Measured → Measured → Measured
plus a b = bind a (λ m. bind b (λ n. fine (m + n)))

abbrev pub total : (PlainTree → Measured) → PlainTrees → Measured
total measure none = fine 0
total measure (more first others) = plus (measure first) (total measure others)

-- what stands for a part, where a statement is needed or not
abbrev pub of_part : (PlainTree → Measured) → Bool → Option PlainTree → Measured
of_part measure needed (Some tree) = measure tree
of_part measure true None = measure no_statement
of_part measure false None = fine 0

-- ---- entries with commas between them

abbrev pub one_each : PlainTree → Measured
one_each tree = fine 1

abbrev pub half_up : ℕ → Measured
half_up n = fine (n / 2 + n % 2)

-- ---- texts

abbrev pub length_of : Option (List ℕ) → Measured
length_of None = refused tt
length_of (Some bytes) = fine (length bytes)

abbrev pub text_length : PlainTree → Measured
text_length (leaf token) = length_of (quoted_values token.text)
text_length (node kind parts) = refused tt

-- with the zero behind them
abbrev pub with_zero : ℕ → Measured
with_zero n = fine (n + 1)
